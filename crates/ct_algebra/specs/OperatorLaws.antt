-- What the laws of operators say; the functions of src/laws.rt prove them.
--     OperatorsAreAGroup            the laws of sums and negatives
--     OperatorsAreFiniteMaps        equal coefficients are equal operators; coefficients of terms, sums and negatives
--     OperatorsAreSumsOfTerms       an operator is the sum of its terms
--     ProductFollowsRule            a polynomial before an operator, a symbol before one, and how a symbol passes a term
--     ShiftPassesItsName            S∘x = (x + 1)∘S, for the shift of the name x
--     DerivationPassesItsName       D∘x = x∘D + 1, for the derivation by the name x
--     ProductHasUnit                the operator one, before and behind
--     ProductDistributes            over sums on both sides
--     ProductIsAssociative
--     ProductActsOnPolynomials      what operators make of polynomials; a product makes what its factors make in turn
--     FieldOperatorsFollowRule      over the field: an operator keeps its terms and sums, and multiples and symbols pass terms by
--                                   the same rule
-- The rule, sums on the left and the associative law say all of the product (`product_only` of Determined).
use Rattle.std.specs.Prelude.{◌≡◌, ◌≢◌, pos, List, [], ◌∷◌}
use Rattle.ct_algebra.specs.Monomial.{Mono, ◌·◌, unit}
use Rattle.ct_algebra.specs.Names.{Name, symbol}
use Rattle.ct_algebra.specs.Polynomial.{Polynomial, polys, plus, times}
use Rattle.ct_algebra.specs.Substitution.{name, number}
use Rattle.ct_algebra.specs.Actions.{Action, Shift, Derive, sigma, delta}
use Rattle.ct_algebra.specs.Operators.{Operator, polynomial_at, operator_of, term_of, no_operator, sum_of_operators, negative, product_of, symbol_before, multiple}
use Rattle.ct_algebra.specs.OnPolynomials.{made_of}
use Rattle.ct_algebra.specs.Field.{K, field, coefficients}
use Rattle.ct_algebra.specs.FieldLaws.{embedded}
use Rattle.ct_algebra.specs.FieldOperators.{field_operator_group, field_term, field_operators, over_field}

pub record OperatorsAreAGroup : Type 0 where
  pub sum_is_associative :
      (p q r : Operator) → sum_of_operators (sum_of_operators p q) r ≡ sum_of_operators p (sum_of_operators q r)
  pub sum_is_commutative : (p q : Operator) → sum_of_operators p q ≡ sum_of_operators q p
  pub sum_with_none : (p : Operator) → sum_of_operators p no_operator ≡ p
  pub sum_with_negative : (p : Operator) → sum_of_operators p (negative p) ≡ no_operator

pub record OperatorsAreFiniteMaps : Type 0 where
  pub same : (p q : Operator) → ((m : Mono) → polynomial_at p m ≡ polynomial_at q m) → p ≡ q
  pub of_none : (m : Mono) → polynomial_at no_operator m ≡ polys.zero
  pub of_a_term : (m : Mono) (c : Polynomial) → polynomial_at (term_of m c) m ≡ c
  pub of_another_term : (m n : Mono) (c : Polynomial) → m ≢ n → polynomial_at (term_of m c) n ≡ polys.zero
  pub of_a_sum :
      (p q : Operator) (m : Mono) →
      polynomial_at (sum_of_operators p q) m ≡ plus (polynomial_at p m) (polynomial_at q m)
  pub of_a_negative : (p : Operator) (m : Mono) → polynomial_at (negative p) m ≡ polys.neg (polynomial_at p m)
  pub of_a_multiple :
      (a : Name → Action) (c : Polynomial) (p : Operator) (m : Mono) →
      polynomial_at (multiple a c p) m ≡ times c (polynomial_at p m)

pub record OperatorsAreSumsOfTerms : Type 0 where
  pub of_none : operator_of [] ≡ no_operator
  pub of_more :
      (e : Mono × Polynomial) (es : List (Mono × Polynomial)) →
      operator_of (e ∷ es) ≡ sum_of_operators (term_of e.0 e.1) (operator_of es)
  pub of_its_own : (p : Operator) → operator_of p.terms ≡ p

pub record ProductFollowsRule : Type 0 where
  pub polynomials_before :
      (a : Name → Action) (c : Polynomial) (p : Operator) → product_of a (term_of unit c) p ≡ multiple a c p
  pub symbols_before :
      (a : Name → Action) (i : Name) (p : Operator) →
      product_of a (term_of (symbol i) polys.one) p ≡ symbol_before a i p
  pub passes :
      (a : Name → Action) (i : Name) (m : Mono) (c : Polynomial) →
      symbol_before a i (term_of m c) ≡
      sum_of_operators (term_of (symbol i · m) (sigma a i c)) (term_of m (delta a i c))

abbrev pub ShiftPassesItsName : Type 0
ShiftPassesItsName =
    (a : Name → Action) (i : Name) → a i ≡ Shift →
    product_of a (term_of (symbol i) polys.one) (term_of unit (name i)) ≡
    product_of a (term_of unit (plus (name i) (number (pos 1)))) (term_of (symbol i) polys.one)

abbrev pub DerivationPassesItsName : Type 0
DerivationPassesItsName =
    (a : Name → Action) (i : Name) → a i ≡ Derive →
    product_of a (term_of (symbol i) polys.one) (term_of unit (name i)) ≡
    sum_of_operators (product_of a (term_of unit (name i)) (term_of (symbol i) polys.one)) (term_of unit polys.one)

pub record ProductHasUnit : Type 0 where
  pub before : (a : Name → Action) (p : Operator) → product_of a (term_of unit polys.one) p ≡ p
  pub behind : (a : Name → Action) (p : Operator) → product_of a p (term_of unit polys.one) ≡ p

pub record ProductDistributes : Type 0 where
  pub over_right :
      (a : Name → Action) (p q r : Operator) →
      product_of a p (sum_of_operators q r) ≡ sum_of_operators (product_of a p q) (product_of a p r)
  pub over_left :
      (a : Name → Action) (p q r : Operator) →
      product_of a (sum_of_operators p q) r ≡ sum_of_operators (product_of a p r) (product_of a q r)

abbrev pub ProductIsAssociative : Type 0
ProductIsAssociative =
    (a : Name → Action) (p q r : Operator) → product_of a (product_of a p q) r ≡ product_of a p (product_of a q r)

pub record ProductActsOnPolynomials : Type 0 where
  pub polynomials : (a : Name → Action) (c f : Polynomial) → made_of a (term_of unit c) f ≡ times c f
  pub shifts :
      (a : Name → Action) (i : Name) (f : Polynomial) → a i ≡ Shift →
      made_of a (term_of (symbol i) polys.one) f ≡ sigma a i f
  pub derivations :
      (a : Name → Action) (i : Name) (f : Polynomial) → a i ≡ Derive →
      made_of a (term_of (symbol i) polys.one) f ≡ delta a i f
  pub sums :
      (a : Name → Action) (p q : Operator) (f : Polynomial) →
      made_of a (sum_of_operators p q) f ≡ plus (made_of a p f) (made_of a q f)
  pub products :
      (a : Name → Action) (p q : Operator) (f : Polynomial) →
      made_of a (product_of a p q) f ≡ made_of a p (made_of a q f)

pub record FieldOperatorsFollowRule : Type 0 where
  pub terms : (m : Mono) (c : Polynomial) → over_field (term_of m c) ≡ field_term m (embedded c)
  pub sums :
      (p q : Operator) →
      over_field (sum_of_operators p q) ≡ field_operator_group.◌+◌ (over_field p) (over_field q)
  pub multiples :
      (a : Name → Action) (x : K) (m : Mono) (y : K) →
      (field_operators a).scale x (field_term m y) ≡ field_term m (field.◌*◌ x y)
  pub passes :
      (a : Name → Action) (i : Name) (m : Mono) (x : K) →
      (field_operators a).D i (field_term m x) ≡
      field_operator_group.◌+◌ (field_term (symbol i · m) ((coefficients a).σ i x)) (field_term m ((coefficients a).δ i x))
