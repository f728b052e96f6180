-- Arithmetic on operators brings in no name: what is made of operators whose coefficients use only the first n names has such coefficients.
-- Main lemmas `fits_sum`, `fits_negative`, `fits_product` and `fits_over_whole`.
-- A coefficient of a product is made of sums and products of coefficients, and of what σ and δ make of them.
use Rattle.ct_border.proofs.Base.{◌≡◌, ℕ, Bool, true, false, cond, [], ◌∷◌, map, IfOk, refl, sym, ◌∙◌, ap, subst, Action, Mono}
use Rattle.ct_border.proofs.Base.{monomials, unit, Name, by_symbols, Operator, Polynomial, polys}
use Rattle.std.proofs.Common.{pos}
use Rattle.ct_algebra.proofs.OperatorLawProofs.{finite_maps}
use Rattle.ct_algebra.proofs.OperatorTerms.{term_of-single}
use Rattle.ct_algebra.proofs.ProductRule.{product_of-term_of, symbol_before-term_of, symbols_commute}
use Rattle.ct_algebra.proofs.TermLawProofs.{by_values}
use Rattle.ct_algebra.specs.Actions.{polynomials}
use Rattle.ct_algebra.specs.Names.{power, power_symbol, power_unit, symbols}
use Rattle.ct_algebra.specs.Operators.{multiple, negative, operator_group, operator_set, polynomial_at, product_of, product_of-sum_left}
use Rattle.ct_algebra.specs.Operators.{sum_of_operators, term_of}
unfoldable use Rattle.ct_algebra.specs.Operators.{no_operator, operator_of, symbol_before}
use Rattle.ct_algebra.specs.OreAlgebra.{op_D_hom}
use Rattle.ct_algebra.specs.Monomial.{products}
use Rattle.ct_algebra.specs.Polynomial.{plus_is}
use Rattle.ct_algebra.specs.Sums.{single}
unfoldable use Rattle.ct_algebra.specs.Sums.{none}
use Rattle.ct_algebra.specs.Terms.{EachTerm}
use Rattle.ct_module.specs.Fitting.{PolynomialFits}
unfoldable use Rattle.ct_ore.specs.Measures.{checked_product}
use Rattle.ct_ore.specs.Wholes.{entry_over}
unfoldable use Rattle.ct_ore.specs.Wholes.{over_whole}
use Rattle.ct_border.specs.BuildViews.{OperatorFits}
use Rattle.ct_border.proofs.KeptFacts.{hom_keeps, mapped_keeps, sum_keeps, verdict_keeps}
use Rattle.ct_border.proofs.NamesKept.{fits-delta, fits-divided, fits-negative, fits-plus, fits-sigma, fits-times, fits_zero}

module _ (n : ℕ) where
  -- ---- coefficients

  pub coefficient_fits : (p : Operator) (m : Mono) → OperatorFits n p → PolynomialFits n (polynomial_at p m)
  coefficient_fits p m fits = by (polys.is_zero (polynomial_at p m)) refl
    where
      by : (b : Bool) → polys.is_zero (polynomial_at p m) ≡ b → PolynomialFits n (polynomial_at p m)
      by true told = subst (PolynomialFits n) (sym (polys.true_zero (polynomial_at p m) told)) (fits_zero n)
      by false told =
          (by_values monomials polys.group p (λ m c. PolynomialFits n c)).0 fits m
          (λ none. let yes : polys.is_zero (polynomial_at p m) ≡ true = ap polys.is_zero none ∙ polys.zero_true in cc)

  by_coefficients : (p : Operator) → ((m : Mono) → PolynomialFits n (polynomial_at p m)) → OperatorFits n p
  by_coefficients p each = (by_values monomials polys.group p (λ m c. PolynomialFits n c)).1 (λ m there. each m)

  pub fits_sum : (p q : Operator) → OperatorFits n p → OperatorFits n q → OperatorFits n (sum_of_operators p q)
  fits_sum p q first second =
      by_coefficients (sum_of_operators p q) (λ m.
      subst (PolynomialFits n) (sym (finite_maps.of_a_sum p q m ∙ plus_is _ _))
      (fits-plus n _ _ (coefficient_fits p m first) (coefficient_fits q m second)))

  pub fits_negative : (p : Operator) → OperatorFits n p → OperatorFits n (negative p)
  fits_negative p fits =
      by_coefficients (negative p) (λ m.
      subst (PolynomialFits n) (sym (finite_maps.of_a_negative p m)) (fits-negative n _ (coefficient_fits p m fits)))

  fits_multiple : (a : Name → Action) (c : Polynomial) (p : Operator) → PolynomialFits n c → OperatorFits n p → OperatorFits n (multiple a c p)
  fits_multiple a c p first fits =
      by_coefficients (multiple a c p) (λ m.
      subst (PolynomialFits n) (sym (finite_maps.of_a_multiple a c p m)) (fits-times n c _ first (coefficient_fits p m fits)))

  pub fits_none : OperatorFits n no_operator
  unfolding no_operator none
  fits_none = tt

  fits_single : (m : Mono) (c : Polynomial) → PolynomialFits n c → OperatorFits n (single monomials polys.group m c)
  unfolding single
  fits_single m c fits = by (polys.is_zero c)
    where
      by : (b : Bool) → EachTerm (λ m c. PolynomialFits n c) (cond b [] ((m, c) ∷ []))
      by true = tt
      by false = (fits, tt)

  pub fits_term_of : (m : Mono) (c : Polynomial) → PolynomialFits n c → OperatorFits n (term_of m c)
  fits_term_of m c fits = subst (OperatorFits n) (sym (term_of-single m c)) (fits_single m c fits)

  -- each term, by a map with sums
  fits_map :
      (φ : Operator → Operator) → ((p q : Operator) → φ (sum_of_operators p q) ≡ sum_of_operators (φ p) (φ q)) →
      ((m : Mono) (c : Polynomial) → PolynomialFits n c → OperatorFits n (φ (term_of m c))) → (p : Operator) → OperatorFits n p →
      OperatorFits n (φ p)
  unfolding sum_of_operators no_operator
  fits_map φ sums each p fits =
      hom_keeps monomials polys.group operator_set operator_group (λ m c. PolynomialFits n c) (OperatorFits n) fits_none fits_sum φ
      (record { sums = sums }) (λ m c holds. subst (λ t. OperatorFits n (φ t)) (term_of-single m c) (each m c holds)) p fits

  -- ---- products

  symbol_fits : (a : Name → Action) (i : Name) (p : Operator) → OperatorFits n p → OperatorFits n (symbol_before a i p)
  unfolding symbol_before sum_of_operators
  symbol_fits a i p fits =
      fits_map (symbol_before a i) sums (λ m c holds.
      subst (OperatorFits n) (sym (symbol_before-term_of a i m c))
      (fits_sum _ _ (fits_term_of _ _ (fits-sigma n a i c holds)) (fits_term_of _ _ (fits-delta n a i c holds)))) p fits
    where
      sums :
          (p q : Operator) → symbol_before a i (sum_of_operators p q) ≡ sum_of_operators (symbol_before a i p) (symbol_before a i q)
      sums p q = (op_D_hom monomials products polys (polynomials a) symbols operator_set i).sums p q

  power_fits : (a : Name → Action) (m : Mono) (p : Operator) → OperatorFits n p → OperatorFits n (power (symbol_before a) m p)
  power_fits a m p fits =
      by_symbols (λ m. OperatorFits n (power (symbol_before a) m p)) (subst (OperatorFits n) (sym (power_unit (symbol_before a) p)) fits)
      (λ i m before.
      subst (OperatorFits n) (sym (power_symbol (symbol_before a) (symbols_commute a) i m p)) (symbol_fits a i _ before)) m

  pub fits_product : (a : Name → Action) (p q : Operator) → OperatorFits n p → OperatorFits n q → OperatorFits n (product_of a p q)
  fits_product a p q first second =
      fits_map (λ p. product_of a p q) (λ p r. product_of-sum_left a p r q) (λ m c holds.
      subst (OperatorFits n) (sym (product_of-term_of a m c q)) (fits_multiple a c _ holds (power_fits a m q second))) p first

  pub fits_checked_product :
      (a : Name → Action) (p q : Operator) → OperatorFits n p → OperatorFits n q → IfOk (checked_product a p q) (OperatorFits n)
  unfolding checked_product
  fits_checked_product a p q first second = verdict_keeps (OperatorFits n) _ _ (fits_product a p q first second)

  -- ---- whole numbers

  pub fits_over_whole : (d : ℕ) (p : Operator) → OperatorFits n p → OperatorFits n (over_whole d p)
  unfolding over_whole operator_of sum_of_operators no_operator
  fits_over_whole d p fits =
      sum_keeps monomials polys.group operator_set operator_group (λ m c. PolynomialFits n c) (OperatorFits n) fits_none fits_sum (λ q. q)
      (record { sums = λ x y. refl }) fits_single (map (entry_over d) p.terms)
      (mapped_keeps (λ m c. PolynomialFits n c) (entry_over d) (λ e holds. fits-divided n unit (pos d) e.1 holds) p.terms fits)
