-- The measure of all pairs, taken together for the terms of each coefficient of the left factor.
-- Main lemmas `pairs_together`, by distributivity, and `no_symbols`: what the symbols 1 make of a list is the list.
use Rattle.ct_ore.proofs.Base.{◌≡◌, refl, ℕ, zero, suc, ◌+◌, ◌*◌, ◌≤◌, Bool, true, false, ℤ, nat_abs, List, [], ◌∷◌, length, sum_by, sym, ◌∙◌, ap}
use Rattle.ct_ore.proofs.Base.{ap₂, arith, sum_by-cons, Mono, exp, total, Name, name_with, place, Polynomial, norm, Action, Shift, Derive, Still}
use Rattle.ct_ore.proofs.Base.{place-name_with}
use Rattle.ct_ore.specs.declared.coefficient_term.CoefficientTerm.{CoefficientTerm}
use Rattle.ct_ore.specs.declared.op.OpTerm.{OpTerm}
use Rattle.ct_ore.specs.Terms.{op_entries}
use Rattle.ct_ore.specs.CoefficientTerms.{size_of, all_terms}
use Rattle.ct_ore.specs.AllNames.{number_of_names, over_below, total_below}
use Rattle.ct_ore.specs.Kinds.{derivation_weight}
use Rattle.ct_ore.specs.PairMeasures.{name_measure, names_measure, term_measure, symbols_measure, coefficient_measure, measure_of_row}
use Rattle.ct_ore.specs.PairMeasures.{measure_of_pairs}
use Rattle.ct_ore.proofs.PairCounts.{sum_by-same, sum_by-scaled, scaled-sum, length-is}
use Rattle.ct_ore.proofs.PairMeasureLaws.{six_total}
use Rattle.ct_ore.proofs.ProductMeasures.{sum_by-all_terms}
use Rattle.ct_ore.proofs.PairWeightLaws.{power_of_one}

module _ (a : Name → Action) where
  row_weighs :
      (m n : Mono) (x : ℤ) (qs : List CoefficientTerm) →
      measure_of_row a true (record { symbols = m; names = n; number = x }) qs ≡ nat_abs x * symbols_measure a true m qs
  row_weighs m n x qs =
      sum_by-same _ _ (λ t. turned (nat_abs x) (nat_abs t.number) (names_measure a true m t.names)) qs
      ∙ sum_by-scaled (nat_abs x) (λ t. term_measure a true m t) qs
    where
      turned : (x y w : ℕ) → x * y * w ≡ x * (y * w)
      turned x y w = omega arith

  row_together :
      (w : Bool) (m : Mono) (c : Polynomial) (qs : List CoefficientTerm) →
      sum_by (λ u. measure_of_row a w (record { symbols = m; names = u.0; number = u.1 }) qs) c.terms ≡
      coefficient_measure w c * symbols_measure a w m qs
  unfolding norm
  row_together true m c qs =
      sum_by-same _ _ (λ u. row_weighs m u.0 u.1 qs) c.terms
      ∙ scaled-sum (λ (u : Mono × ℤ). nat_abs u.1) (symbols_measure a true m qs) c.terms
  row_together false m c qs =
      sum_by-same _ _ (λ u. once (symbols_measure a false m qs)) c.terms
      ∙ scaled-sum (λ (u : Mono × ℤ). 1) (symbols_measure a false m qs) c.terms
      ∙ ap (λ n. n * symbols_measure a false m qs) (sym (length-is c.terms))
    where
      once : (n : ℕ) → n ≡ 1 * n
      once n = omega arith

  pub together : Bool → List CoefficientTerm → List (Mono × Polynomial) → ℕ
  together w qs es = sum_by (λ e. coefficient_measure w e.1 * symbols_measure a w e.0 qs) es

  pub pairs_together :
      (w : Bool) (es : List (Mono × Polynomial)) (qs : List CoefficientTerm) →
      together w qs es ≡ measure_of_pairs a w (all_terms es) qs
  unfolding together
  pairs_together w es qs =
      sym (sum_by-all_terms (λ s. measure_of_row a w s qs) es ∙ sum_by-same _ _ (λ e. row_together w e.0 e.1 qs) es)

  pub together-cons :
      (w : Bool) (qs : List CoefficientTerm) (e : Mono × Polynomial) (es : List (Mono × Polynomial)) →
      together w qs (e ∷ es) ≡ coefficient_measure w e.1 * symbols_measure a w e.0 qs + together w qs es
  unfolding together
  together-cons w qs e es = sum_by-cons (λ (e : Mono × Polynomial). coefficient_measure w e.1 * symbols_measure a w e.0 qs) e es

  pub together-none :
      (w : Bool) (qs : List CoefficientTerm) (ps : List OpTerm) → length ps ≡ 0 → together w qs (op_entries ps) ≡ 0
  unfolding together
  together-none w qs [] none = refl
  together-none w qs (p ∷ ps) none = absurd (omega arith)

-- ---- without symbols

pub name_alone : (w : Bool) (t : Action) (k e : ℕ) → k ≡ 0 → name_measure w t k e ≡ 1
unfolding derivation_weight
name_alone w t k e none = ap (λ n. name_measure w t n e) none ∙ by w t
  where
    by : (w : Bool) (t : Action) → name_measure w t 0 e ≡ 1
    by true Shift = power_of_one e
    by true Derive = refl
    by true Still = refl
    by false Shift = refl
    by false Derive = omega arith
    by false Still = refl

module _ (a : Name → Action) (m : Mono) (none : total m ≡ 0) where
  names_below_alone :
      (w : Bool) (l : Mono) (n : ℕ) → n ≤ number_of_names → total_below n m ≡ 0 →
      over_below n (λ i. name_measure w (a i) (exp m (place i)) (exp l (place i))) ≡ 1
  names_below_alone w l zero small absent = refl
  names_below_alone w l (suc n) small absent =
      let here : exp m (place (name_with n)) ≡ 0 = ap (exp m) (place-name_with n (omega arith)) ∙ omega (arith, absent) in
      ap₂ ◌*◌ (names_below_alone w l n (omega arith) (omega (arith, absent))) (name_alone w (a (name_with n)) _ (exp l (place (name_with n))) here)

  names_alone : (w : Bool) (n : Mono) → names_measure a w m n ≡ 1
  names_alone w n = names_below_alone w n number_of_names (omega arith) (omega (arith, six_total m, none))

  pub no_symbols-weight : (qs : List CoefficientTerm) → size_of qs ≡ symbols_measure a true m qs
  no_symbols-weight qs = sum_by-same _ _ (λ t. once (nat_abs t.number) (names_measure a true m t.names) (names_alone true t.names)) qs
    where
      once : (x n : ℕ) → n ≡ 1 → x ≡ x * n
      once x n e = omega (arith, ap (λ y. x * y) e)

  pub no_symbols-count : (qs : List CoefficientTerm) → length qs ≡ symbols_measure a false m qs
  no_symbols-count qs = length-is qs ∙ sum_by-same _ _ (λ t. sym (names_alone false t.names)) qs
