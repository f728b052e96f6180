-- The values of printed terms. Main lemmas `term_value` and `before_symbols_value`: a number, powers of names and then powers
-- of symbols make one term, and so does a polynomial before powers of symbols.
use Rattle.ct_answer.proofs.Base.{◌≡◌, ℕ, ◌≤◌, ◌<◌, ◌==◌, Bool, true, false, cond, pos, List, [], ◌∷◌, ◌++◌, None, Some, Ok, Err, refl, sym, ap, ◌∙◌}
use Rattle.ct_answer.proofs.Base.{arith, eqb-true, Mono, total, total-·, unit, Name, Polynomial, polys, term, number_is, Action, Operator, term_of}
use Rattle.ct_answer.proofs.Base.{Checked, ◌>>=◌, largest_degree, largest_norm, checked_product, Expr, product_of, Value, over_one, checked_times}
use Rattle.ct_answer.proofs.Base.{fraction_of, fractions, product_from, times_over_one, fraction_of-Whole, fraction_of-Product, Each, total_unit}
use Rattle.ct_poly.proofs.TermLists.{positive_coef}
use Rattle.ct_answer.specs.declared.factors.Power.{Power}
use Rattle.ct_answer.proofs.PlainProducts.{times_symbols}
use Rattle.ct_answer.proofs.PowerMonomials.{monomial_of, all_of, unit_before}
use Rattle.ct_answer.proofs.PowerValues.{IsSmall, small_term, small_one, one_is_term, more_names, value-name, value-symbol, names_value}
use Rattle.ct_answer.proofs.PowerValues.{symbols_value}
use Rattle.ct_answer.proofs.PrintedExpressions.{power_expression, power_expressions, term_expression}
use Rattle.ct_expr.specs.declared.expr.Expr.TheVariants as e

module _ (a : Name → Action) where
  -- a product of one factor is that factor
  value-product_of : (f : Expr) (fs : List Expr) → fraction_of a (product_of (f ∷ fs)) ≡ product_from a None (fractions a (f ∷ fs))
  unfolding product_of product_from
  value-product_of f [] = by (fraction_of a f)
    where
      by : (c : Checked Value) → c ≡ (c >>= (λ x. Ok x))
      by (Ok x) = refl
      by (Err k) = refl
  value-product_of f (g ∷ fs) = fraction_of-Product a (f ∷ g ∷ fs)

  -- a product that begins with a value
  begun : (f : Expr) (x : Operator) (fs : List (Checked Value)) → fraction_of a f ≡ Ok (over_one x) →
      product_from a None (fraction_of a f ∷ fs) ≡ product_from a (Some (over_one x)) fs
  unfolding product_from
  begun f x fs value = ap (λ (c : Checked Value). c >>= (λ y. product_from a (Some y) fs)) value

  -- a factor 1 before a power makes no difference
  one_before : (x : Operator) (f : Expr) (fs : List (Checked Value)) → fraction_of a f ≡ Ok (over_one x) →
      checked_product a (term_of unit (term unit (pos 1))) x ≡ Ok x
      → product_from a (Some (over_one (term_of unit (term unit (pos 1))))) (fraction_of a f ∷ fs) ≡ product_from a None (fraction_of a f ∷ fs)
  unfolding product_from
  one_before x f fs value same =
      ap (λ (c : Checked Value). c >>=
      (λ y. checked_times a (over_one (term_of unit (term unit (pos 1)))) y >>= (λ more. product_from a (Some more) fs))) value
      ∙ ap (λ (c : Checked Value). c >>= (λ more. product_from a (Some more) fs)) (times_over_one a _ _ _ same)
      ∙ sym (begun f x fs value)

  one_before_power : (p : Power) (fs : List (Checked Value)) → total (monomial_of p) ≤ largest_degree
      → product_from a (Some (over_one (term_of unit (term unit (pos 1))))) (fraction_of a (power_expression p) ∷ fs) ≡
      product_from a None (fraction_of a (power_expression p) ∷ fs)
  one_before_power p fs low = by p.is_symbol refl
    where
      by : (is_symbol : Bool) → p.is_symbol ≡ is_symbol
          → product_from a (Some (over_one (term_of unit (term unit (pos 1))))) (fraction_of a (power_expression p) ∷ fs) ≡
          product_from a None (fraction_of a (power_expression p) ∷ fs)
      by false is =
          one_before (term_of unit (term (monomial_of p) (pos 1))) (power_expression p) fs (value-name a p is low)
          (more_names a unit (monomial_of p) (pos 1) tt (omega arith) (omega (arith, total_unit, low))
          ∙ ap (λ (k : Mono). Ok (term_of unit (term k (pos 1)))) (unit_before (monomial_of p)))
      by true is =
          one_before (term_of (monomial_of p) polys.one) (power_expression p) fs (value-symbol a p is low)
          (ap (λ (c : Polynomial). checked_product a (term_of unit c) (term_of (monomial_of p) polys.one)) (sym one_is_term)
          ∙ times_symbols a unit (monomial_of p) polys.one small_one.some small_one.few small_one.small small_one.low (omega (arith, total_unit, low))
          ∙ ap (λ (k : Mono). Ok (term_of k polys.one)) (unit_before (monomial_of p)))

  whole_value : (n : ℕ) → fraction_of a (e.Whole (pos n)) ≡ Ok (over_one (term_of unit (term unit (pos n))))
  whole_value n = fraction_of-Whole a (pos n) ∙ ap (λ (c : Polynomial). Ok (over_one (term_of unit c))) (number_is (pos n))

  -- a number and powers, from the number on
  from_number : (n : ℕ) (p : Power) (ps : List Power) → total (monomial_of p) ≤ largest_degree
      → fraction_of a (term_expression n (p ∷ ps)) ≡ product_from a (Some (over_one (term_of unit (term unit (pos n)))))
      (fractions a (power_expressions (p ∷ ps)))
  from_number n p ps low = by (n == 1) refl
    where
      by : (is_one : Bool) → (n == 1) ≡ is_one
          → fraction_of a (product_of (cond is_one (power_expressions (p ∷ ps)) (e.Whole (pos n) ∷ power_expressions (p ∷ ps))))
          ≡ product_from a (Some (over_one (term_of unit (term unit (pos n))))) (fractions a (power_expressions (p ∷ ps)))
      by true is =
          let one : n ≡ 1 = eqb-true n 1 is in
          value-product_of (power_expression p) (power_expressions ps)
          ∙ sym (one_before_power p (fractions a (power_expressions ps)) low)
          ∙ ap (λ (k : ℕ). product_from a (Some (over_one (term_of unit (term unit (pos k))))) (fractions a (power_expressions (p ∷ ps)))) (sym one)
      by false is =
          value-product_of (e.Whole (pos n)) (power_expressions (p ∷ ps))
          ∙ begun (e.Whole (pos n)) (term_of unit (term unit (pos n))) (fractions a (power_expressions (p ∷ ps))) (whole_value n)

  values-append : (ps qs : List Power) → fractions a (power_expressions (ps ++ qs)) ≡ fractions a (power_expressions ps) ++
      fractions a (power_expressions qs)
  values-append [] qs = refl
  values-append (p ∷ ps) qs = ap (λ (fs : List (Checked Value)). fraction_of a (power_expression p) ∷ fs) (values-append ps qs)

  -- powers of names and then of symbols, behind a number
  both_value : (n : ℕ) (ps qs : List Power) → 0 < n → n ≤ largest_norm → Each (λ p. p.is_symbol ≡ false) ps → Each (λ p. p.is_symbol ≡ true) qs
      → total (all_of ps) ≤ largest_degree → total (all_of qs) ≤ largest_degree
      → product_from a (Some (over_one (term_of unit (term unit (pos n))))) (fractions a (power_expressions (ps ++ qs))) ≡
      Ok (over_one (term_of (all_of qs) (term (all_of ps) (pos n))))
  both_value n ps qs some small names symbols low low_order =
      ap (product_from a (Some (over_one (term_of unit (term unit (pos n)))))) (values-append ps qs)
      ∙ names_value a ps unit (pos n) (fractions a (power_expressions qs)) names (positive_coef n some) small (omega (arith, total_unit, low))
      ∙ ap (λ (k : Mono). product_from a (Some (over_one (term_of unit (term k (pos n))))) (fractions a (power_expressions qs)))
      (unit_before (all_of ps))
      ∙ symbols_value a qs unit (term (all_of ps) (pos n)) symbols (small_term (all_of ps) (pos n) (positive_coef n some) small low)
      (omega (arith, total_unit, low_order))
      ∙ ap (λ (k : Mono). Ok (over_one (term_of k (term (all_of ps) (pos n))))) (unit_before (all_of qs))

  pub term_value : (n : ℕ) (ps qs : List Power) → 0 < n → n ≤ largest_norm → Each (λ p. p.is_symbol ≡ false) ps → Each (λ p. p.is_symbol ≡ true) qs
      → total (all_of ps) ≤ largest_degree → total (all_of qs) ≤ largest_degree
      → fraction_of a (term_expression n (ps ++ qs)) ≡ Ok (over_one (term_of (all_of qs) (term (all_of ps) (pos n))))
  unfolding product_of
  term_value n [] [] some small names symbols low low_order = whole_value n
  term_value n [] (q ∷ qs) some small names symbols low low_order =
      from_number n q qs (omega (arith, total-· (monomial_of q) (all_of qs), low_order))
      ∙ both_value n [] (q ∷ qs) some small names symbols low low_order
  term_value n (p ∷ ps) qs some small names symbols low low_order =
      from_number n p (ps ++ qs) (omega (arith, total-· (monomial_of p) (all_of ps), low))
      ∙ both_value n (p ∷ ps) qs some small names symbols low low_order

  -- a polynomial before powers of symbols
  pub before_symbols_value : (x : Expr) (c : Polynomial) (qs : List Power) → fraction_of a x ≡ Ok (over_one (term_of unit c)) → IsSmall c →
      Each (λ p. p.is_symbol ≡ true) qs → total (all_of qs) ≤ largest_degree
      → fraction_of a (product_of (x ∷ power_expressions qs)) ≡ Ok (over_one (term_of (all_of qs) c))
  before_symbols_value x c qs value known symbols low =
      value-product_of x (power_expressions qs)
      ∙ begun x (term_of unit c) (fractions a (power_expressions qs)) value
      ∙ symbols_value a qs unit c symbols known (omega (arith, total_unit, low))
      ∙ ap (λ (k : Mono). Ok (over_one (term_of k c))) (unit_before (all_of qs))
