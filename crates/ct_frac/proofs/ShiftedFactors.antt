-- A shifted fraction is in written form, and has the value that σ of the field gives. Main lemmas `shifted_written`
-- and `sigma-value`, which `sigma` cites.
-- Shifted factors are factors, since the shift keeps what makes them so, and differ, since it is injective; so they can be
-- sorted anew.
use Rattle.ct_frac.proofs.Base.{◌≡◌, refl, ℕ, zero, suc, ◌<◌, ℤ, pos, Option, Some, Ok, List, [], ◌∷◌, Less, sym, ◌∙◌, ap, ap₂, subst, IsGcd, Action}
use Rattle.ct_frac.proofs.Base.{Shift, sigma, sigma_by, plain, coefficients, leading, Mono, total, Name, Polynomial, polys, polys_domain, times}
use Rattle.ct_frac.proofs.Base.{degree, degree_of, number, one_is, shift_ring_hom, fractions, both_fit, verdict_ok, content, is_negative}
use Rattle.ct_frac.proofs.Base.{leads_below_zero, is_below_zero, checked_shifted, shifted, steps, poly_cmp}
use Rattle.ct_algebra.specs.FractionOre.{sigma_of, σ_value-value}
use Rattle.ct_poly.proofs.ShiftValues.{shifted-zero}
use Rattle.ct_frac.specs.declared.factor.Factor.{Factor}
use Rattle.ct_frac.specs.Normal.{inserted, sorted_onto}
use Rattle.ct_frac.specs.Symbols.{checked_shifted_factors, checked_sigma}
use Rattle.ct_frac.specs.Written.{Written, IsBase, IsBelow, AreFactors, IsOne, IsWritten, power, product_of_factors, multiplied_out, value}
use Rattle.ct_frac.proofs.Denominators.{den_nonzero}
use Rattle.ct_frac.proofs.Exponents.{tied}
use Rattle.ct_frac.proofs.JoinedFactors.{same_ok}
use Rattle.ct_frac.proofs.Products.{one_times, product_of_factors-sorted_onto}
use Rattle.ct_frac.proofs.Quotients.{ratio, value_over-ratio}
use Rattle.ct_frac.proofs.ShiftedTerms.{shift_leads, shift_injective, content-shift}
use Rattle.ct_frac.proofs.Sorting.{DiffersFrom, AreDifferent, sorted_factors, apart_from_none}
use Rattle.ct_algebra.specs.Actions as actions

-- ---- what a leading term tells

degree_leads : (es fs : List (Mono × ℤ)) → leading es ≡ leading fs → degree_of es ≡ degree_of fs
degree_leads [] [] same = refl
degree_leads [] (f ∷ fs) same = cc
degree_leads (e ∷ es) [] same = cc
degree_leads (e ∷ es) (f ∷ fs) same = ap (λ d. total d.0) (first same)
  where
    first : ◌≡◌ {A = Option (Mono × ℤ)} (Some e) (Some f) → e ≡ f
    first same = cc

sign_leads : (es fs : List (Mono × ℤ)) → leading es ≡ leading fs → leads_below_zero es ≡ leads_below_zero fs
sign_leads [] [] same = refl
sign_leads [] (f ∷ fs) same = cc
sign_leads (e ∷ es) [] same = cc
sign_leads (e ∷ es) (f ∷ fs) same = ap (λ d. is_below_zero d.1) (first same)
  where
    first : ◌≡◌ {A = Option (Mono × ℤ)} (Some e) (Some f) → e ≡ f
    first same = cc

module _ (i : Name) where
  abbrev moved : Polynomial → Polynomial
  moved p = shifted i 1 p

  -- ---- polynomials

  degree-moved : (p : Polynomial) → degree (moved p) ≡ degree p
  unfolding degree shifted
  degree-moved p = degree_leads _ _ (shift_leads (steps i 1) p)

  sign-moved : (p : Polynomial) → is_negative (moved p) ≡ is_negative p
  unfolding is_negative shifted
  sign-moved p = sign_leads _ _ (shift_leads (steps i 1) p)

  content-moved : (p : Polynomial) → content (moved p) ≡ content p
  unfolding shifted
  content-moved p = content-shift (steps i 1) p

  moved_injective : (p q : Polynomial) → moved p ≡ moved q → p ≡ q
  unfolding shifted
  moved_injective p q same = shift_injective (steps i 1) p q same

  moved-times : (p q : Polynomial) → moved (times p q) ≡ times (moved p) (moved q)
  unfolding shifted times
  moved-times p q = (shift_ring_hom (steps i 1)).products p q

  moved-number : (n : ℕ) → moved (number (pos n)) ≡ number (pos n)
  unfolding shifted
  moved-number n = (shift_ring_hom (steps i 1)).numbers (pos n)

  moved-one : moved polys.one ≡ polys.one
  moved-one = ap moved one_is ∙ moved-number 1 ∙ sym one_is

  moved-power : (p : Polynomial) (n : ℕ) → moved (power p n) ≡ power (moved p) n
  moved-power p zero = moved-one
  moved-power p (suc n) = moved-times p (power p n) ∙ ap (times (moved p)) (moved-power p n)

  base_moved : (p : Polynomial) → IsBase p → IsBase (moved p)
  base_moved p base = record {
    not_constant = subst (λ n. 0 < n) (sym (degree-moved p)) base.not_constant;
    primitive = content-moved p ∙ base.primitive;
    positive = sign-moved p ∙ base.positive;
  }

  -- ---- lists of factors

  abbrev all_moved : List Factor → List Factor
  all_moved [] = []
  all_moved (f ∷ fs) = record { poly = moved f.poly; exp = f.exp } ∷ all_moved fs

  moved_differs : (p : Polynomial) (fs : List Factor) → IsBelow p fs → DiffersFrom (moved p) (all_moved fs)
  moved_differs p [] below = tt
  moved_differs p (g ∷ gs) below = (λ same. apart (moved_injective p g.poly same) below.0, moved_differs p gs below.1)
    where
      apart : p ≡ g.poly → poly_cmp p g.poly ≡ Less → ⊥
      apart same less = let equal = tied p ∙ refl in let turned = sym less ∙ ap (poly_cmp p) (sym same) ∙ equal in cc

  moved_different : (fs : List Factor) → AreFactors fs → AreDifferent (all_moved fs)
  moved_different [] are = tt
  moved_different (f ∷ fs) are = (
    record { base = base_moved f.poly are.0.base; some = are.0.some; few = are.0.few },
    (moved_differs f.poly fs are.1.0, moved_different fs are.1.1),
  )

  product_of_factors-moved : (fs : List Factor) → product_of_factors (all_moved fs) ≡ moved (product_of_factors fs)
  product_of_factors-moved [] = sym moved-one
  product_of_factors-moved (f ∷ fs) =
      ap₂ times (sym (moved-power f.poly f.exp)) (product_of_factors-moved fs) ∙ sym (moved-times (power f.poly f.exp) (product_of_factors fs))

  -- ---- the checked steps

  shifted_ok : (p q : Polynomial) → checked_shifted i 1 p ≡ Ok q → moved p ≡ q
  unfolding checked_shifted
  shifted_ok p q fits = verdict_ok _ (moved p) q fits

  shifted_factors_ok :
      (done fs gs : List Factor) → checked_shifted_factors i done fs ≡ Ok gs → sorted_onto done (all_moved fs) ≡ gs
  shifted_factors_ok done [] gs fits = same_ok done gs fits
  shifted_factors_ok done (f ∷ fs) gs fits =
      let first = both_fit (checked_shifted i 1 f.poly) (λ p. checked_shifted_factors i (inserted (record { poly = p; exp = f.exp }) done) fs) gs fits
      in
      ap (λ p. sorted_onto (inserted (record { poly = p; exp = f.exp }) done) (all_moved fs)) (shifted_ok f.poly first.value first.first)
      ∙ shifted_factors_ok (inserted (record { poly = first.value; exp = f.exp }) done) fs gs first.rest

  pub factors_shifted : (fs gs : List Factor) → AreFactors fs → checked_shifted_factors i [] fs ≡ Ok gs → AreFactors gs
  factors_shifted fs gs are fits =
      subst AreFactors (shifted_factors_ok [] fs gs fits)
      (sorted_factors [] (all_moved fs) tt (moved_different fs are) (apart_from_none (all_moved fs)))

  product_shifted : (fs gs : List Factor) → checked_shifted_factors i [] fs ≡ Ok gs → product_of_factors gs ≡ moved (product_of_factors fs)
  product_shifted fs gs fits =
      ap product_of_factors (sym (shifted_factors_ok [] fs gs fits)) ∙ product_of_factors-sorted_onto [] (all_moved fs) ∙ one_times _
      ∙ product_of_factors-moved fs

  -- ---- fractions

  -- what the steps give of a fraction in written form
  record Moved (w r : Written) : Type 0 where
    written : IsWritten r
    numerator : r.numerator ≡ moved w.numerator
    denominator : multiplied_out r.den ≡ moved (multiplied_out w.den)

  none_moved : (p : Polynomial) → moved p ≡ polys.zero → p ≡ polys.zero
  none_moved p none = moved_injective p polys.zero (none ∙ sym (shifted-zero i 1))

  none_shifted : (fs gs : List Factor) → fs ≡ [] → checked_shifted_factors i [] fs ≡ Ok gs → gs ≡ []
  none_shifted fs gs none fits = sym (shifted_factors_ok [] fs gs fits) ∙ ap (λ hs. sorted_onto [] (all_moved hs)) none

  moved_parts :
      (w : Written) (n : Polynomial) (gs : List Factor) → IsWritten w → moved w.numerator ≡ n → checked_shifted_factors i [] w.den.factors ≡ Ok gs →
      Moved w (record { numerator = n; den = record { whole = w.den.whole; factors = gs } })
  unfolding multiplied_out
  moved_parts w n gs is made fits = record {
    written = record {
      den = record { positive = is.den.positive; within = is.den.within; factors = factors_shifted w.den.factors gs is.den.factors fits };
      lowest = subst (λ k. IsGcd k w.den.whole 1) (sym (content-moved w.numerator) ∙ ap content made) is.lowest;
      zero_over_one = λ none.
          let one : IsOne w.den = is.zero_over_one (none_moved w.numerator (made ∙ none)) in
          (one.0, none_shifted w.den.factors gs one.1 fits);
    };
    numerator = sym made;
    denominator = ap₂ times (sym (moved-number w.den.whole)) (product_shifted w.den.factors gs fits)
        ∙ sym (moved-times (number (pos w.den.whole)) (product_of_factors w.den.factors));
  }

  -- as the code brings it about
  pub shifted_written :
      (w : Written) (n : Polynomial) (gs : List Factor) → IsWritten w → checked_shifted i 1 w.numerator ≡ Ok n →
      checked_shifted_factors i [] w.den.factors ≡ Ok gs → IsWritten (record { numerator = n; den = record { whole = w.den.whole; factors = gs } })
  shifted_written w n gs is made fits = (moved_parts w n gs is (shifted_ok w.numerator n made) fits).written

  sigma_moved : (w r : Written) → IsWritten w → checked_sigma i w ≡ Ok r → Moved w r
  unfolding checked_sigma
  sigma_moved w r is answer =
      let n = both_fit (checked_shifted i 1 w.numerator) _ r answer in
      let factors = both_fit (checked_shifted_factors i [] w.den.factors) _ r n.rest in
      subst (Moved w) (same_ok (record { numerator = n.value; den = record { whole = w.den.whole; factors = factors.value } }) r factors.rest)
      (moved_parts w n.value factors.value is (shifted_ok w.numerator n.value n.first) factors.first)

  sigma_by-moved : (t : Action) (p : Polynomial) → t ≡ Shift → sigma_by t i p ≡ moved p
  unfolding shifted
  sigma_by-moved t p shifts = ap (λ u. sigma_by u i p) shifts

  pub sigma-value :
      (w r : Written) → IsWritten w → checked_sigma i w ≡ Ok r → (a : Name → Action) → a i ≡ Shift →
      value r ≡ (coefficients a).σ i (value w)
  unfolding value times
  sigma-value w r is answer a shifts =
      let m = sigma_moved w r is answer in
      let some = den_nonzero w.den is.den in
      let x = ratio w.numerator (multiplied_out w.den) some in
      value_over-ratio r.numerator (multiplied_out r.den) (den_nonzero r.den m.written.den)
      ∙ fractions.equal (ratio r.numerator (multiplied_out r.den) (den_nonzero r.den m.written.den))
      (sigma_of polys polys_domain (actions.polynomials a) (plain a) i x)
      (ap₂ times (m.numerator ∙ sym (sigma_by-moved (a i) w.numerator shifts)) (sigma_by-moved (a i) (multiplied_out w.den) shifts
      ∙ sym m.denominator))
      ∙ sym (σ_value-value polys polys_domain (actions.polynomials a) (plain a) i x)
      ∙ ap ((coefficients a).σ i) (sym (value_over-ratio w.numerator (multiplied_out w.den) some))
