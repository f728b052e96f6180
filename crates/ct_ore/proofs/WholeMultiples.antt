-- An operator times a whole number, by the rules of products. Main lemmas `once` (times 1 it is itself) and `multiple_is`:
-- within the limits the rule of products asks for the norm alone, since a number has no degree and makes one term of each.
use Rattle.ct_ore.proofs.Base.{◌≡◌, ◌≢◌, refl, ℕ, zero, suc, ◌+◌, ◌*◌, ◌<◌, ◌≤◌, le-ltb, ltb, cond, T, true, false, ℤ, Bool, pos, Option, None, Ok}
use Rattle.ct_ore.proofs.Base.{List, [], ◌∷◌, length, sym, ◌∙◌, ap, ap₂, arith, Mono, unit, Name, Action, Polynomial, polys, norm, norm_of, degree}
use Rattle.ct_ore.proofs.Base.{degree_of, number, number_is, one_is, int_is_zero, Operator, term_of, product_of, one-product_of, verdict}
use Rattle.ct_ore.proofs.Base.{largest_degree, most_terms, largest_norm, Kind, Number, broken}
use Rattle.ct_ore.specs.CoefficientTerms.{all_terms, coefficient_terms}
use Rattle.ct_ore.specs.Measures.{term_count, term_norm, coefficient_degree, order_of, product_count, product_norm, product_overflow, checked_product}
use Rattle.ct_ore.specs.PairMeasures.{coefficient_measure, symbols_measure, measure_of_pairs}
use Rattle.ct_ore.specs.Wholes.{whole_operator, checked_multiple}
use Rattle.ct_ore.specs.TermSums.{entries_norm}
use Rattle.ct_ore.proofs.OperatorMeasures.{count-coefficient_terms, norm-coefficient_terms, terms-term_of}
use Rattle.ct_ore.proofs.ProductMeasures.{count-pairs, norm-pairs}
use Rattle.ct_ore.proofs.OneTerm.{terms-term, some_term, coefficient_degree-one, order_of-one, total_unit}
use Rattle.ct_ore.proofs.PairMeasureLaws.{begin, none_of_zero}
use Rattle.ct_ore.proofs.PairSums.{pairs_together, together-cons, together-none, no_symbols-weight, no_symbols-count}

multiple_fits : (a : Name → Action) (n : ℕ) (p : Operator) → n * term_norm p ≤ largest_norm →
    checked_multiple a n p ≡ Ok (product_of a (whole_operator n) p)
unfolding checked_multiple verdict
multiple_fits a n p small =
    ap (λ b. verdict (broken b Number None) (product_of a (whole_operator n) p)) (le-ltb largest_norm (n * term_norm p) small)

-- times 1
pub once : (a : Name → Action) (p : Operator) → term_norm p ≤ largest_norm → checked_multiple a 1 p ≡ Ok p
once a p small =
    multiple_fits a 1 p (omega (arith, small)) ∙ ap Ok (ap (λ c. product_of a (term_of unit c) p) (sym one_is) ∙ one-product_of a p)

-- without terms there is no norm
no_norm : (p : Operator) → length p.terms ≡ 0 → term_norm p ≡ 0
unfolding term_norm
no_norm p none = by p.terms none
  where
    by : (es : List (Mono × Polynomial)) → length es ≡ 0 → entries_norm es ≡ 0
    by [] none = refl
    by (e ∷ es) none = absurd (omega (arith, none))

-- ---- a number as an operator

module _ (n : ℕ) (some : 0 < n) where
  there : T (cond (int_is_zero (pos n)) false true)
  there = by n some
    where
      by : (n : ℕ) → 0 < n → T (cond (int_is_zero (pos n)) false true)
      by zero some = absurd (omega (arith, some))
      by (suc n) some = tt

  number_terms : (number (pos n)).terms ≡ (unit, pos n) ∷ []
  number_terms = ap (λ (c : Polynomial). c.terms) (number_is (pos n)) ∙ terms-term unit (pos n) there

  number_some : number (pos n) ≢ polys.zero
  number_some none = some_term unit (pos n) there (sym (number_is (pos n)) ∙ none)

  terms : (whole_operator n).terms ≡ (unit, number (pos n)) ∷ []
  terms = terms-term_of unit (number (pos n)) number_some

  no_degree : coefficient_degree (whole_operator n) ≡ 0
  unfolding degree
  no_degree = coefficient_degree-one unit (number (pos n)) number_some ∙ ap degree_of number_terms ∙ total_unit

  no_order : order_of (whole_operator n) ≡ 0
  no_order = order_of-one unit (number (pos n)) number_some ∙ total_unit

  number_norm : norm (number (pos n)) ≡ n
  unfolding norm
  number_norm = ap norm_of number_terms ∙ let plain : 0 + n ≡ n = omega arith in plain

  module _ (a : Name → Action) (p : Operator) where
    measured : (w : Bool) → measure_of_pairs a w (coefficient_terms (whole_operator n)) (coefficient_terms p) ≡
        coefficient_measure w (number (pos n)) * symbols_measure a w unit (coefficient_terms p)
    unfolding coefficient_terms
    measured w =
        let qs = all_terms p.terms in
        ap (λ es. measure_of_pairs a w (all_terms es) qs) terms
        ∙ sym (pairs_together a w ((unit, number (pos n)) ∷ []) qs)
        ∙ together-cons a w qs (unit, number (pos n)) []
        ∙ let none = together-none a w qs [] refl in omega (arith, none)

    counted : product_count a (whole_operator n) p ≡ term_count p
    counted =
        sym (count-pairs a (whole_operator n) p) ∙ measured false
        ∙ ap₂ ◌*◌ (ap (λ (es : List (Mono × ℤ)). length es) number_terms) (sym (no_symbols-count a unit total_unit (coefficient_terms p))
        ∙ count-coefficient_terms p)
        ∙ omega arith

    weighed : product_norm a (whole_operator n) p ≡ n * term_norm p
    weighed =
        sym (norm-pairs a (whole_operator n) p) ∙ measured true
        ∙ ap₂ ◌*◌ number_norm (sym (no_symbols-weight a unit total_unit (coefficient_terms p)) ∙ norm-coefficient_terms p)

    module _ (low : coefficient_degree p ≤ largest_degree) (low_order : order_of p ≤ largest_degree) (few : term_count p ≤ most_terms) where
      rule : product_overflow a (whole_operator n) p ≡ broken (ltb largest_norm (n * term_norm p)) Number None
      rule = by (length p.terms) refl
        where
          empty : length p.terms ≡ 0 → product_overflow a (whole_operator n) p ≡ broken (ltb largest_norm (n * term_norm p)) Number None
          empty none =
              let weightless : n * term_norm p ≡ 0 = ap (λ k. n * k) (no_norm p none) ∙ omega arith in
              let small = le-ltb largest_norm (n * term_norm p) (omega (arith, weightless)) in
              sym (none_of_zero a (whole_operator n) p (ap (λ k. length (whole_operator n).terms * k) none ∙ omega arith)) ∙ rw small refl

          by : (k : ℕ) → length p.terms ≡ k → product_overflow a (whole_operator n) p ≡ broken (ltb largest_norm (n * term_norm p)) Number None
          by zero none = empty none
          by (suc k) more =
              let pairs : length (whole_operator n).terms * length p.terms ≢ 0 =
              λ none. let one = ap (λ (es : List (Mono × Polynomial)). length es) terms in
              let some_pairs : 1 * suc k ≡ 0 = sym (ap₂ ◌*◌ one more) ∙ none in absurd (omega (arith, some_pairs)) in
              let one = le-ltb largest_degree (coefficient_degree (whole_operator n) + coefficient_degree p) (omega (arith, no_degree, low)) in
              let two = le-ltb largest_degree (order_of (whole_operator n) + order_of p) (omega (arith, no_order, low_order)) in
              let three = le-ltb most_terms (product_count a (whole_operator n) p) (omega (arith, counted, few)) in
              begin a (whole_operator n) p pairs ∙ rw (one, two, three, weighed) refl

      pub multiple_is : checked_product a (whole_operator n) p ≡ checked_multiple a n p
      unfolding checked_product checked_multiple
      multiple_is = ap (λ (o : Option Kind). verdict o (product_of a (whole_operator n) p)) rule
