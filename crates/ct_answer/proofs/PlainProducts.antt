-- Products in which nothing passes a symbol: by powers of names before symbols, and by powers of symbols behind names.
-- Main lemmas `times_names` and `times_symbols`: every pair of terms makes one term, so the product is within the limits where
-- its value is.
use Rattle.std.proofs.Common.{◌≡◌, ◌≢◌, ◌⊎◌, inl, inr, ℕ, zero, suc, ◌+◌, ◌*◌, ◌^◌, ◌≤◌, Bool, true, false, cond, eqb, ltb, le-ltb, ℤ, pos, nat_abs}
use Rattle.std.proofs.Common.{List, [], ◌∷◌, length, None, Option, Ok, refl, sym, ap, ap₂, ◌∙◌, subst, arith, min}
use native.Mathlib.Nat.{pow-zero}
use Rattle.std.proofs.lemmas.List.Sums.{sum_by-cons}
use Rattle.ct_algebra.specs.Sums.{none}
use Rattle.ct_algebra.specs.Monomial.{Mono, exp, total, unit, ◌·◌, ·_assoc, ·_comm, ·-unit, exp-unit}
use Rattle.ct_algebra.specs.Names.{Name, name_with, place, place_small, symbol, power, power_unit, power_symbol, by_symbols}
use Rattle.ct_algebra.specs.Polynomial.{Polynomial, polys, times, count, norm, norm_of, degree, degree_of}
use Rattle.ct_algebra.specs.Substitution.{term, number_is, one_is}
use Rattle.ct_algebra.specs.Actions.{Action, Shift, Derive, Still, by_action}
use Rattle.ct_algebra.specs.Operators.{Operator, term_of, product_of, symbol_before, multiple}
use Rattle.ct_algebra.proofs.ProductRule.{multiple-term_of, product_of-term_of, product_of-polynomial, multiple-one_term, symbol_before-one}
use Rattle.ct_algebra.proofs.ProductRule.{symbols_commute}
use Rattle.ct_checked.specs.Checked.{verdict}
use Rattle.ct_checked.specs.Limits.{largest_degree, most_terms, largest_norm}
use Rattle.ct_checked.specs.declared.fault.Kind.{Kind}
use Rattle.ct_ore.specs.declared.coefficient_term.CoefficientTerm.{CoefficientTerm}
use Rattle.ct_ore.specs.CoefficientTerms.{row_of, coefficient_terms}
use Rattle.ct_ore.specs.Measures.{coefficient_degree, order_of, product_count, product_norm, product_overflow, checked_product}
use Rattle.ct_ore.specs.MeasureLaws.{FitsProduct}
use Rattle.ct_ore.specs.PairMeasures.{pair_measure, measure_of_row, measure_of_pairs}
use Rattle.ct_ore.specs.AllNames.{number_of_names, over_below, over_names}
use Rattle.ct_ore.specs.Kinds.{pair_count, pair_weight, derivation_weight, ways_below}
use Rattle.ct_ore.proofs.OneTerm.{terms-term, some_term, coefficient_terms-one, coefficient_degree-one, order_of-one, total_unit}
use Rattle.ct_ore.proofs.PairWeightLaws.{derivation_weight-min, power_of_one}
use Rattle.ct_ore.proofs.ProductMeasures.{count-pairs, norm-pairs}

-- ---- pairs

module _ (a : Name → Action) where
  no_way_of_none : (e : ℕ) → derivation_weight 0 e ≡ 1
  unfolding derivation_weight
  no_way_of_none e = refl

  no_way_of_one : (k : ℕ) → derivation_weight k 0 ≡ 1
  no_way_of_one k =
      let least : min k 0 + 1 ≡ 1 = omega arith in
      derivation_weight-min k 0 ∙ ap (λ (n : ℕ). ways_below n k 0) least

  -- no symbol of a name stands before a power of it
  one_term_each : (i : Name) (k e : ℕ) → (k ≡ 0) ⊎ (e ≡ 0) → (pair_count a i k e ≡ 1) × (pair_weight a i k e ≡ 1)
  one_term_each i k e (inl none) = by (a i)
    where
      by : (t : Action) → (by_action t (cond (ltb 0 k) (e + 1) 1) (min k e + 1) 1 ≡ 1) × (by_action t ((1 + k) ^ e) (derivation_weight k e) 1 ≡ 1)
      by Shift = rw none (refl, power_of_one e)
      by Derive = let least : min 0 e + 1 ≡ 1 = omega arith in rw none (least, no_way_of_none e)
      by Still = (refl, refl)
  one_term_each i k e (inr none) = by (a i)
    where
      either_way : (b : Bool) → cond b (0 + 1) 1 ≡ 1
      either_way true = refl
      either_way false = refl

      by : (t : Action) → (by_action t (cond (ltb 0 k) (e + 1) 1) (min k e + 1) 1 ≡ 1) × (by_action t ((1 + k) ^ e) (derivation_weight k e) 1 ≡ 1)
      by Shift = rw none (either_way (ltb 0 k), pow-zero (1 + k))
      by Derive = let least : min k 0 + 1 ≡ 1 = omega arith in rw none (least, no_way_of_one k)
      by Still = (refl, refl)

  -- of no name do both have a power
  abbrev Apart : Mono → Mono → Type 0
  Apart m n = (i : Name) → (exp m (place i) ≡ 0) ⊎ (exp n (place i) ≡ 0)

  pairs_are_one : (m n : Mono) → Apart m n →
      (over_names (λ i. pair_count a i (exp m (place i)) (exp n (place i))) ≡ 1) ×
      (over_names (λ i. pair_weight a i (exp m (place i)) (exp n (place i))) ≡ 1)
  pairs_are_one m n apart =
      let one = λ (i : Name). one_term_each i (exp m (place i)) (exp n (place i)) (apart i) in
      (all_ones _ (λ i. (one i).0) number_of_names, all_ones _ (λ i. (one i).1) number_of_names)
    where
      all_ones : (f : Name → ℕ) → ((i : Name) → f i ≡ 1) → (n : ℕ) → over_below n f ≡ 1
      all_ones f one zero = refl
      all_ones f one (suc n) = ap₂ ◌*◌ (all_ones f one n) (one (name_with n))

  -- ---- a row of terms, times one term

  abbrev factor : Mono → Mono → CoefficientTerm
  factor m n = record { symbols = m; names = n; number = pos 1 }

  count_row : (m : Mono) (k : Mono) (n : Mono) → Apart m n → (es : List (Mono × ℤ)) →
      measure_of_pairs a false (row_of m es) (factor k n ∷ []) ≡ length es
  count_row m k n apart [] = refl
  count_row m k n apart (e ∷ es) =
      let one = (pairs_are_one m n apart).0 in
      omega (
        arith,
        sum_by-cons (λ (s : CoefficientTerm). measure_of_row a false s (factor k n ∷ [])) (record { symbols = m; names = e.0; number = e.1 })
            (row_of m es),
        sum_by-cons (λ (t : CoefficientTerm). pair_measure a false (record { symbols = m; names = e.0; number = e.1 }) t) (factor k n) [],
        one,
        count_row m k n apart es,
      )

  weight_row : (m : Mono) (k : Mono) (n : Mono) → Apart m n → (es : List (Mono × ℤ)) →
      measure_of_pairs a true (row_of m es) (factor k n ∷ []) ≡ norm_of es
  weight_row m k n apart [] = refl
  weight_row m k n apart (e ∷ es) =
      let one = (pairs_are_one m n apart).1 in
      let here : nat_abs e.1 * 1 * over_names (λ i. pair_weight a i (exp m (place i)) (exp n (place i))) ≡ nat_abs e.1 = rw one (omega arith) in
      omega (
        arith,
        sum_by-cons (λ (s : CoefficientTerm). measure_of_row a true s (factor k n ∷ [])) (record { symbols = m; names = e.0; number = e.1 })
            (row_of m es),
        sum_by-cons (λ (t : CoefficientTerm). pair_measure a true (record { symbols = m; names = e.0; number = e.1 }) t) (factor k n) [],
        here,
        weight_row m k n apart es,
        sum_by-cons (λ (d : Mono × ℤ). nat_abs d.1) e es,
      )

  -- ---- products within the limits

  fitting : (p q : Operator) → FitsProduct a p q → product_overflow a p q ≡ None
  unfolding product_overflow
  fitting p q fits =
      let one = le-ltb largest_degree (coefficient_degree p + coefficient_degree q) fits.degrees in
      let two = le-ltb largest_degree (order_of p + order_of q) fits.orders in
      let three = le-ltb most_terms (product_count a p q) fits.count in
      let four = le-ltb largest_norm (product_norm a p q) fits.norm in
      rw (one, two, three, four) (by (eqb (length p.terms * length q.terms) 0))
    where
      by : (b : Bool) → cond {A = Option Kind} b None None ≡ None
      by true = refl
      by false = refl

  times_fits : (p q r : Operator) → FitsProduct a p q → product_of a p q ≡ r → checked_product a p q ≡ Ok r
  unfolding checked_product verdict
  times_fits p q r fits value = ap (λ (o : Option Kind). verdict o (product_of a p q)) (fitting p q fits) ∙ ap Ok value

  -- the terms of the second factor
  second_terms : (k n : Mono) → coefficient_terms (term_of k (term n (pos 1))) ≡ factor k n ∷ []
  second_terms k n = coefficient_terms-one k (term n (pos 1)) (some_term n (pos 1) tt) ∙ ap (row_of k) (terms-term n (pos 1) tt)

  product_fits : (m k n : Mono) (c : Polynomial) → c ≢ polys.zero → Apart m n → count c ≤ most_terms → norm c ≤ largest_norm →
      degree c + total n ≤ largest_degree → total m + total k ≤ largest_degree
      → FitsProduct a (term_of m c) (term_of k (term n (pos 1)))
  unfolding count norm degree
  product_fits m k n c some apart few small low low_order =
      let first = coefficient_terms-one m c some in
      let second = second_terms k n in
      let counted = sym (count-pairs a _ _) ∙ ap₂ (measure_of_pairs a false) first second ∙ count_row m k n apart c.terms in
      let weighed = sym (norm-pairs a _ _) ∙ ap₂ (measure_of_pairs a true) first second ∙ weight_row m k n apart c.terms in
      let second_degree : degree (term n (pos 1)) ≡ total n = ap degree_of (terms-term n (pos 1) tt) in
      record {
        degrees = omega (
          arith,
          coefficient_degree-one m c some,
          coefficient_degree-one k (term n (pos 1)) (some_term n (pos 1) tt),
          second_degree,
          low,
        );
        orders = omega (arith, order_of-one m c some, order_of-one k (term n (pos 1)) (some_term n (pos 1) tt), low_order);
        count = omega (arith, counted, few);
        norm = omega (arith, weighed, small);
      }

  -- ---- what the products are

  apart_at_unit : (n : Mono) → Apart unit n
  apart_at_unit n i = inl (exp-unit (place i) (place_small i))

  unit_apart : (m : Mono) → Apart m unit
  unit_apart m i = inr (exp-unit (place i) (place_small i))

  -- a power of names behind a polynomial
  pub times_names : (n : Mono) (c : Polynomial) → c ≢ polys.zero → count c ≤ most_terms → norm c ≤ largest_norm → degree c + total n ≤ largest_degree
      → checked_product a (term_of unit c) (term_of unit (term n (pos 1))) ≡ Ok (term_of unit (times c (term n (pos 1))))
  times_names n c some few small low =
      times_fits (term_of unit c) (term_of unit (term n (pos 1))) _
      (product_fits unit unit n c some (apart_at_unit n) few small low (omega (arith, total_unit)))
      (product_of-polynomial a c _ ∙ multiple-term_of a c unit (term n (pos 1)))

  symbols_before : (k : Mono) (m : Mono) → power (symbol_before a) m (term_of k polys.one) ≡ term_of (m · k) polys.one
  symbols_before k =
      by_symbols (λ m. power (symbol_before a) m (term_of k polys.one) ≡ term_of (m · k) polys.one)
      (power_unit (symbol_before a) _ ∙ ap (λ (n : Mono). term_of n polys.one) (sym (·_comm unit k ∙ ·-unit k)))
      (λ i m same. power_symbol (symbol_before a) (symbols_commute a) i m _ ∙ ap (symbol_before a i) same ∙ symbol_before-one a i (m · k)
      ∙ ap (λ (n : Mono). term_of n polys.one) (sym (·_assoc (symbol i) m k)))

  -- a power of symbols behind a term
  pub times_symbols : (m k : Mono) (c : Polynomial) → c ≢ polys.zero → count c ≤ most_terms → norm c ≤ largest_norm → degree c ≤ largest_degree →
      total m + total k ≤ largest_degree
      → checked_product a (term_of m c) (term_of k polys.one) ≡ Ok (term_of (m · k) c)
  times_symbols m k c some few small low low_order =
      let fits = product_fits m k unit c some (unit_apart m) few small (omega (arith, low, total_unit)) low_order in
      times_fits (term_of m c) (term_of k polys.one) (term_of (m · k) c)
      (subst (λ (d : Polynomial). FitsProduct a (term_of m c) (term_of k d)) (sym (one_is ∙ number_is (pos 1))) fits)
      (product_of-term_of a m c _ ∙ ap (multiple a c) (symbols_before k m) ∙ multiple-one_term a (m · k) c)
