-- The product of operators from its factors' terms: what stands before an operator, and how a symbol passes a term.
-- Main lemmas: `symbol_before-term_of`, the commutation rule; `product_of-term_of`, a term before an operator; and
-- `product_of-one`, one behind an operator. Cited by the laws and by code that multiplies operators.
use Rattle.std.specs.Prelude.{◌≡◌, refl}
use Rattle.std.proofs.Common.{sym, ◌∙◌, ap, ap₂}
use Rattle.ct_algebra.specs.Monomial.{Mono, monomials, products, ◌·◌, unit}
use Rattle.ct_algebra.specs.Names.{Name, symbol, symbols, power, power_unit, power-symbol}
use Rattle.ct_algebra.specs.Polynomial.{Polynomial, polys, times}
use Rattle.ct_algebra.specs.Actions.{Action, sigma, delta, polynomials}
use Rattle.ct_algebra.specs.Ore.{Ore, Module, Symbols, δ_one}
use Rattle.ct_algebra.specs.OreAlgebra.{◌∘◌, one_term, one_term-sum, op_D, op_D-one_term, op_module, op_scale-one_term, D_D_is}
use Rattle.ct_algebra.specs.Sums.{Sum, sums_group, same_hom}
use Rattle.ct_algebra.specs.Group.{none_added}
use Rattle.ct_algebra.specs.Ring.{Ring}
use Rattle.ct_algebra.specs.Terms.{Keys}
use Rattle.ct_algebra.specs.Products.{Monoid}
use Rattle.ct_algebra.specs.Operators.{Operator, operator_set, operator_group, term_of, sum_of_operators, product_of, symbol_before, multiple}
use Rattle.ct_algebra.specs.Operators.{product_of-sum_left, apply}
use Rattle.ct_algebra.proofs.AppliedOperators.{apply-term_of, multiple-one}
use Rattle.ct_algebra.proofs.OperatorTerms.{sums_are, term_of-single}

-- ---- a symbol passes the coefficient one, over any ring

module _ {M A I : Type 0} (O : Keys M) (N : Monoid M) (R : Ring A) (E : Ore I R) (Y : Symbols I N) (s : IsSet (Sum O R.group)) where
  one_term-zero : (m : M) → one_term O N R E Y s m R.zero ≡ (sums_group O R.group s).zero
  one_term-zero m =
      none_added (sums_group O R.group s) _ (ap (one_term O N R E Y s m) (sym (R.add_zero R.zero)) ∙ one_term-sum O N R E Y s m R.zero R.zero)

  pub op_D-one :
      (i : I) (m : M) → op_D O N R E Y s i (one_term O N R E Y s m R.one) ≡ one_term O N R E Y s (N.◌·◌ (Y.symbol i) m) R.one
  op_D-one i m =
      op_D-one_term O N R E Y s i m R.one
      ∙ ap₂ (sums_group O R.group s).◌+◌ (ap (one_term O N R E Y s _) (E.σ_one i))
      (ap (one_term O N R E Y s m) (δ_one E i) ∙ one_term-zero m)
      ∙ (sums_group O R.group s).add_zero _

  pub power-one : (m : M) → Y.power (op_D O N R E Y s) m (one_term O N R E Y s N.unit R.one) ≡ one_term O N R E Y s m R.one
  power-one =
      Y.by_symbols (λ m. Y.power (op_D O N R E Y s) m (one_term O N R E Y s N.unit R.one) ≡ one_term O N R E Y s m R.one)
      (Y.power_unit (op_D O N R E Y s) _)
      (λ i m same. Y.power_symbol (op_D O N R E Y s) (D_D_is O N R E Y s) i m _ ∙ ap (op_D O N R E Y s i) same ∙ op_D-one i m)

module _ (a : Name → Action) where
  -- operators as a module of operators
  abbrev pub operator_module : Module polys (polynomials a) Operator
  operator_module = op_module monomials products polys (polynomials a) symbols operator_set

  pub multiple-term_of : (b : Polynomial) (m : Mono) (c : Polynomial) → multiple a b (term_of m c) ≡ term_of m (times b c)
  unfolding multiple term_of one_term times
  multiple-term_of b m c = op_scale-one_term monomials products polys (polynomials a) symbols operator_set b m c

  -- ---- the commutation rule

  pub symbol_before-term_of :
      (i : Name) (m : Mono) (c : Polynomial) →
      symbol_before a i (term_of m c) ≡
      sum_of_operators (term_of (symbol i · m) (sigma a i c)) (term_of m (delta a i c))
  unfolding symbol_before sum_of_operators term_of one_term
  symbol_before-term_of i m c = op_D-one_term monomials products polys (polynomials a) symbols operator_set i m c

  pub symbols_commute :
      (i j : Name) (p : Operator) → symbol_before a i (symbol_before a j p) ≡ symbol_before a j (symbol_before a i p)
  unfolding symbol_before
  symbols_commute i j p = D_D_is monomials products polys (polynomials a) symbols operator_set i j p

  -- ---- one factor is a term

  pub product_of-term_of :
      (m : Mono) (c : Polynomial) (p : Operator) →
      product_of a (term_of m c) p ≡ multiple a c (power (symbol_before a) m p)
  unfolding product_of ◌∘◌ apply multiple symbol_before
  product_of-term_of m c p = apply-term_of a operator_module m c p

  pub product_of-polynomial : (c : Polynomial) (p : Operator) → product_of a (term_of unit c) p ≡ multiple a c p
  product_of-polynomial c p = product_of-term_of unit c p ∙ ap (multiple a c) (power_unit (symbol_before a) p)

  pub product_of-symbol :
      (i : Name) (p : Operator) → product_of a (term_of (symbol i) polys.one) p ≡ symbol_before a i p
  product_of-symbol i p =
      product_of-term_of (symbol i) polys.one p ∙ multiple-one a _
      ∙ power-symbol (symbol_before a) symbols_commute i p

  -- a term is its coefficient times its monomial
  pub multiple-one_term : (m : Mono) (c : Polynomial) → multiple a c (term_of m polys.one) ≡ term_of m c
  unfolding times
  multiple-one_term m c = multiple-term_of c m polys.one ∙ ap (term_of m) (polys.mul_one c)

  pub product_of-split : (m : Mono) (c : Polynomial) → product_of a (term_of unit c) (term_of m polys.one) ≡ term_of m c
  product_of-split m c = product_of-polynomial c _ ∙ multiple-one_term m c

  -- ---- one is a unit

  pub one-product_of : (p : Operator) → product_of a (term_of unit polys.one) p ≡ p
  one-product_of p = product_of-polynomial polys.one p ∙ multiple-one a p

  pub symbol_before-one : (i : Name) (m : Mono) → symbol_before a i (term_of m polys.one) ≡ term_of (symbol i · m) polys.one
  unfolding symbol_before term_of one_term
  symbol_before-one i m = op_D-one monomials products polys (polynomials a) symbols operator_set i m

  power-term_of : (m : Mono) → power (symbol_before a) m (term_of unit polys.one) ≡ term_of m polys.one
  unfolding symbol_before term_of one_term
  power-term_of m = power-one monomials products polys (polynomials a) symbols operator_set m

  pub product_of-one : (p : Operator) → product_of a p (term_of unit polys.one) ≡ p
  product_of-one p =
      same_hom monomials polys.group operator_set operator_group
      (λ q. product_of a q (term_of unit polys.one)) (λ q. q)
      (record { sums = λ q r. ap (λ w. product_of a w (term_of unit polys.one)) (sym (sums_are q r)) ∙ product_of-sum_left a q r _ ∙ sums_are _ _ })
      (record { sums = λ q r. refl })
      (λ m c. ap (λ w. product_of a w (term_of unit polys.one)) (sym (term_of-single m c)) ∙ on_term m c ∙ term_of-single m c) p
    where
      on_term : (m : Mono) (c : Polynomial) → product_of a (term_of m c) (term_of unit polys.one) ≡ term_of m c
      on_term m c =
          product_of-term_of m c _ ∙ ap (multiple a c) (power-term_of m)
          ∙ sym (product_of-polynomial c _) ∙ product_of-split m c
