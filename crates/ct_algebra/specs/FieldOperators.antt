-- Operators with coefficients in the field of fractions.
--     FieldOperator          finite maps from operator monomials to nonzero values of the field
--     field_term m x         the operator of one term; none where x is zero
--     field_operators a      these as a module over the field, with symbols before them by the commutation rule
--     over_field p           the operator p, with its coefficients in the field
-- They are made as the operators are, with the field in place of the polynomials.
use Rattle.std.specs.Prelude.{List}
use Rattle.std.proofs.Common.{ap}
use mathlib.Core.HLevel.{collapsible→set}
use mathlib.Core.List.{is_set}
use Rattle.ct_algebra.specs.Group.{Group}
use Rattle.ct_algebra.specs.Ore.{Module}
use Rattle.ct_algebra.specs.OreAlgebra.{op_module}
use Rattle.ct_algebra.specs.Sums.{Sum, single, lift, same_terms, sums_group}
use Rattle.ct_algebra.specs.Monomial.{Mono, mono_set, monomials, products}
use Rattle.ct_algebra.specs.Names.{Name, symbols}
use Rattle.ct_algebra.specs.Actions.{Action}
use Rattle.ct_algebra.specs.Polynomial.{polys}
use Rattle.ct_algebra.specs.Operators.{Operator}
use Rattle.ct_algebra.specs.Field.{K, field, coefficients}
use Rattle.ct_algebra.specs.FieldLaws.{embedded}

-- finite maps from operator monomials to nonzero values of the field
abbrev pub FieldOperator : Type 0
FieldOperator = Sum monomials field.group

terms_set : IsSet (List (Mono × K))
terms_set = let m = mono_set in let k = field.is_set in is_set (hlevel (m, k))

pub field_operator_set : IsSet FieldOperator
field_operator_set =
    collapsible→set (λ p q e. same_terms monomials field.group p q (ap (λ r. r.terms) e))
    (λ p q e f. ap (same_terms monomials field.group p q) (terms_set p.terms q.terms (ap (λ r. r.terms) e) (ap (λ r. r.terms) f)))

abbrev pub field_operator_group : Group FieldOperator
field_operator_group = sums_group monomials field.group field_operator_set

-- one term; none where x is zero
abbrev pub field_term : Mono → K → FieldOperator
field_term m x = single monomials field.group m x

-- operators over the field as a module over the field
abbrev pub field_operators : (a : Name → Action) → Module field (coefficients a) FieldOperator
field_operators a = op_module monomials products field (coefficients a) symbols field_operator_set

-- each coefficient as a value of the field
abbrev pub over_field : Operator → FieldOperator
over_field p = lift monomials polys.group field_operator_group (λ m c. field_term m (embedded c)) p
