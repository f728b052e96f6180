-- The proofs of specs/OperatorLaws: the laws of finite sums and of the product, read at operators; what operators make of
-- the module of polynomials; and operators over the field.
use Rattle.std.specs.Prelude.{◌≡◌, refl, [], ◌∷◌}
use Rattle.std.proofs.Common.{sym, ◌∙◌, ap, ap₂}
use Rattle.ct_algebra.specs.Laws.Terms.{IsAdditive}
use Rattle.ct_algebra.specs.Products.{single-sum}
use Rattle.ct_algebra.specs.OreAlgebra.{one_term, op_scale-one_term, op_D-one_term}
use Rattle.ct_algebra.specs.Division.{embed-sum}
use Rattle.ct_algebra.specs.Field.{field, coefficients}
use Rattle.ct_algebra.specs.FieldLaws.{embedded}
use Rattle.ct_algebra.specs.FieldOperators.{field_operator_set, field_operator_group, field_term}
use Rattle.ct_algebra.specs.Sums.{lift-single, lift-⊕, at, same_sum, at-⊕, at-none, at-negated, at-sum_of}
use Rattle.ct_algebra.specs.Monomial.{monomials, products, unit, ·-unit}
use Rattle.ct_algebra.specs.Names.{Name, symbol, symbols, power_unit, power-symbol}
use Rattle.ct_algebra.specs.Polynomial.{Polynomial, polys, polys_domain, plus, times}
use Rattle.ct_algebra.specs.Substitution.{name}
use Rattle.ct_algebra.specs.Actions.{Action, sigma, delta, sigma_by, delta_by}
use Rattle.ct_algebra.specs.Operators.{operator_group, operator_of, term_of, no_operator, sum_of_operators, negative, product_of, product_of_assoc}
use Rattle.ct_algebra.specs.Operators.{product_of-sum, product_of-sum_left, apply-product_of}
use Rattle.ct_algebra.specs.OnPolynomials.{on_polynomials, symbol_by, by_symbol, made_of}
use Rattle.ct_algebra.specs.OperatorLaws.{OperatorsAreAGroup, OperatorsAreFiniteMaps, OperatorsAreSumsOfTerms, ProductFollowsRule, ShiftPassesItsName}
use Rattle.ct_algebra.specs.OperatorLaws.{DerivationPassesItsName, ProductHasUnit, ProductDistributes, ProductIsAssociative, ProductActsOnPolynomials}
use Rattle.ct_algebra.specs.OperatorLaws.{FieldOperatorsFollowRule}
use Rattle.ct_algebra.proofs.AppliedOperators.{apply-sum, apply-term_of}
use Rattle.ct_algebra.proofs.OperatorTerms.{at-term_of, pick-same, pick-other, at-multiple, term_of-zero}
use Rattle.ct_algebra.proofs.ProductRule.{product_of-polynomial, product_of-symbol, product_of-split, symbol_before-term_of, one-product_of}
use Rattle.ct_algebra.proofs.ProductRule.{product_of-one}
use Rattle.ct_algebra.proofs.SymbolLawProofs.{shifts, derivations}
use Rattle.ct_algebra.proofs.TermProducts.{sum_of-append, sum_of-one, sum_of-none}

pub group : OperatorsAreAGroup
unfolding sum_of_operators no_operator negative
group = record {
  sum_is_associative = operator_group.add_assoc;
  sum_is_commutative = operator_group.add_comm;
  sum_with_none = operator_group.add_zero;
  sum_with_negative = operator_group.add_neg;
}

pub finite_maps : OperatorsAreFiniteMaps
unfolding sum_of_operators no_operator negative plus
finite_maps = record {
  same = same_sum monomials polys.group;
  of_none = at-none monomials polys.group;
  of_a_term = λ m c. at-term_of m m c ∙ pick-same m m c refl;
  of_another_term = λ m n c other. at-term_of m n c ∙ pick-other n m c other;
  of_a_sum = at-⊕ monomials polys.group;
  of_a_negative = at-negated monomials polys.group;
  of_a_multiple = at-multiple;
}

pub sums_of_terms : OperatorsAreSumsOfTerms
unfolding operator_of sum_of_operators no_operator term_of
sums_of_terms = record {
  of_none = sum_of-none monomials polys.group;
  of_more = λ e es.
      sum_of-append monomials polys.group (e ∷ []) es
      ∙ ap (λ p. sum_of_operators p (operator_of es)) (sum_of-one monomials polys.group e);
  of_its_own = λ p.
      same_sum monomials polys.group _ _ (λ m. at-sum_of monomials polys.group p.terms m ∙ unfold at in refl);
}

-- ---- products

pub follows_rule : ProductFollowsRule
follows_rule = record {
  polynomials_before = product_of-polynomial;
  symbols_before = product_of-symbol;
  passes = symbol_before-term_of;
}

-- a symbol before a coefficient
symbol_passes :
    (a : Name → Action) (i : Name) (c : Polynomial) →
    product_of a (term_of (symbol i) polys.one) (term_of unit c) ≡
    sum_of_operators (product_of a (term_of unit (sigma a i c)) (term_of (symbol i) polys.one)) (term_of unit (delta a i c))
symbol_passes a i c =
    product_of-symbol a i _ ∙ symbol_before-term_of a i unit c
    ∙ ap (λ p. sum_of_operators p (term_of unit (delta a i c)))
    (ap (λ m. term_of m (sigma a i c)) (·-unit (symbol i)) ∙ sym (product_of-split a (symbol i) (sigma a i c)))

pub shift_passes_its_name : ShiftPassesItsName
shift_passes_its_name a i acts =
    symbol_passes a i (name i)
    ∙ ap₂ (λ c d. sum_of_operators (product_of a (term_of unit c) (term_of (symbol i) polys.one)) (term_of unit d))
    (shifts.itself a i acts) (shifts.no_delta a i (name i) acts)
    ∙ ap (sum_of_operators _) (term_of-zero unit) ∙ group.sum_with_none _

pub derivation_passes_its_name : DerivationPassesItsName
derivation_passes_its_name a i acts =
    symbol_passes a i (name i)
    ∙ ap₂ (λ c d. sum_of_operators (product_of a (term_of unit c) (term_of (symbol i) polys.one)) (term_of unit d))
    (derivations.no_sigma a i (name i) acts) (derivations.itself a i acts)

pub has_unit : ProductHasUnit
has_unit = record { before = one-product_of; behind = product_of-one }

pub distributes : ProductDistributes
distributes = record { over_right = product_of-sum; over_left = product_of-sum_left }

pub associative : ProductIsAssociative
associative = product_of_assoc

-- ---- what operators make of polynomials

pub acts_on_polynomials : ProductActsOnPolynomials
unfolding plus times
acts_on_polynomials = record {
  polynomials = λ a c f. apply-term_of a (on_polynomials a) unit c f ∙ ap (times c) (power_unit _ f);
  shifts = λ a i f acts. by_itself a i f ∙ ap (λ t. symbol_by t i f) acts ∙ sym (ap (λ t. sigma_by t i f) acts);
  derivations = λ a i f acts. by_itself a i f ∙ ap (λ t. symbol_by t i f) acts ∙ sym (ap (λ t. delta_by t i f) acts);
  sums = λ a p q f. apply-sum a (on_polynomials a) p q f;
  products = λ a p q f. apply-product_of a (on_polynomials a) p q f;
}
  where
    by_itself :
        (a : Name → Action) (i : Name) (f : Polynomial) →
        made_of a (term_of (symbol i) polys.one) f ≡ symbol_by (a i) i f
    by_itself a i f =
        apply-term_of a (on_polynomials a) (symbol i) polys.one f ∙ (on_polynomials a).scale_one _
        ∙ power-symbol (by_symbol a) (on_polynomials a).D_D i f

-- ---- operators over the field

over_field_additive : IsAdditive polys.group field_operator_group (λ m c. field_term m (embedded c))
over_field_additive = record {
  sums = λ m b c. ap (field_term m) (embed-sum polys polys_domain b c) ∙ single-sum monomials products field field_operator_set m _ _;
}

pub field_operators_follow_rule : FieldOperatorsFollowRule
unfolding term_of sum_of_operators one_term
field_operators_follow_rule = record {
  terms = lift-single monomials polys.group field_operator_group _ over_field_additive;
  sums = lift-⊕ monomials polys.group field_operator_group _ over_field_additive;
  multiples = λ a x m y. op_scale-one_term monomials products field (coefficients a) symbols field_operator_set x m y;
  passes = λ a i m x. op_D-one_term monomials products field (coefficients a) symbols field_operator_set i m x;
}
