-- Lists of an operator's terms, as code keeps them, and what they stand for.
--     op_entries ts          the terms as pairs of a product of symbols and a polynomial
--     operator_of_terms ts   the operator that any list of terms adds up to
--     IsOperator ts          monomials fall, and no coefficient is zero: the written form of an operator
use Rattle.std.specs.Prelude.{List, map}
use Rattle.ct_algebra.specs.Monomial.{Mono, monomials}
use Rattle.ct_algebra.specs.Polynomial.{Polynomial, polys}
use Rattle.ct_algebra.specs.Terms.{IsCanonical}
use Rattle.ct_algebra.specs.Operators.{Operator, operator_of}
use Rattle.ct_ore.specs.declared.op.OpTerm.{OpTerm}

abbrev pub op_entries : List OpTerm → List (Mono × Polynomial)
op_entries ts = map (λ t. (t.mono, t.coef)) ts

unfoldable pub operator_of_terms : List OpTerm → Operator
operator_of_terms ts = operator_of (op_entries ts)

abbrev pub IsOperator : List OpTerm → Type 0
IsOperator ts = IsCanonical monomials polys.group (op_entries ts)
