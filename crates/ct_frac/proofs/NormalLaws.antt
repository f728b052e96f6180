-- Normal gives a written form of the same value. Main lemmas `normal_written` and `normal-value`, which every call that
-- answers a fraction cites, and `divided_out_is`, which a law cites.
-- Dividing a factor out as many times as possible takes one power from the numerator and from the factor; so the cross
-- products stay equal. What is left has no common divisor, since a further one would divide the greatest.
use Rattle.ct_frac.proofs.Base.{◌≡◌, ◌≢◌, refl, ℕ, zero, suc, ◌*◌, ◌/◌, ◌<◌, pos, Bool, true, false, cond, None, Some, List, [], ◌∷◌, ◌++◌, Option}
use Rattle.ct_frac.proofs.Base.{inl, inr, sym, ◌∙◌, ap, subst, arith, ◌∣◌, IsGcd, append-nil, dvd_refl, div-le_self, div-mul_cancel}
use Rattle.ct_frac.proofs.Base.{dvd_of_mul-dvd-mul_right, mul-dvd-mul_right, one-mul, one-dvd, pos_of_ne-zero, eq-zero_of_zero-dvd, unit, Polynomial}
use Rattle.ct_frac.proofs.Base.{polys, polys_domain, times, times_assoc, zero_mul, number, content, divided, greatest_common}
use Rattle.ct_algebra.specs.Domain.{zero_factor}
use Rattle.ct_poly.specs.Division.{quotient}
use Rattle.ct_poly.proofs.DivisionLaws.{quotient_is}
use Rattle.ct_frac.specs.declared.factor.Factor.{Factor}
use Rattle.ct_frac.specs.FractionLaws.{IsDividedOut, FactorsAreDividedOut}
use Rattle.ct_frac.specs.Normal.{on_quotient, divided_out, with_exponent, Lowered, lowered, cancelled, in_lowest_terms, normal}
use Rattle.ct_frac.specs.Written.{Denominator, Written, AreFactors, IsDenominator, IsWritten, power, product_of_factors, multiplied_out, value}
use Rattle.ct_frac.specs.Written.{value_over, one_den, whole_polynomial}
use Rattle.ct_int.proofs.CommonDivisors.{greatest_common_is, greatest_common_only}
use Rattle.ct_frac.proofs.Denominators.{factors-kept, number-product, den_nonzero}
use Rattle.ct_frac.proofs.Products.{times_comm, times_one, one_times, times_left_comm, power-sum, product_of_factors-append}
use Rattle.ct_frac.proofs.Products.{product_of_factors-with_exponent}
use Rattle.ct_frac.proofs.Quotients.{same_over}
use Rattle.ct_frac.proofs.WholeParts.{part_whole, content_of_part}

-- ---- one factor

pub divided_out_is : FactorsAreDividedOut
divided_out_is f n zero =
    record { lost = 0; exponent_is = omega arith; numerator_is = sym (times_one n); ended = inl refl }
divided_out_is f n (suc e) = by (quotient n f) refl (λ q. divided_out_is f q e)
  where
    by : (o : Option Polynomial) → quotient n f ≡ o → ((q : Polynomial) → IsDividedOut f q e (divided_out f q e))
        → IsDividedOut f n (suc e) (on_quotient o (record { numerator = n; exponent = suc e }) (λ q. divided_out f q e))
    by None none more = record { lost = 0; exponent_is = omega arith; numerator_is = sym (times_one n); ended = inr none }
    by (Some q) found more = let h = more q in record {
      lost = suc h.lost;
      exponent_is = omega (arith, h.exponent_is);
      numerator_is = sym (quotient_is n f q found) ∙ ap (λ w. times w f) h.numerator_is ∙ times_assoc _ _ _
          ∙ ap (times (divided_out f q e).numerator) (times_comm _ f);
      ended = h.ended;
    }

-- ---- all factors

lowered_factors : (n : Polynomial) (done fs : List Factor) → AreFactors (done ++ fs) → AreFactors (lowered n done fs).factors
lowered_factors n done [] are = subst AreFactors (append-nil done) are
lowered_factors n done (f ∷ fs) are =
    let left = divided_out f.poly n f.exp in
    lowered_factors left.numerator (done ++ with_exponent f.poly left.exponent []) fs
    (factors-kept done f left.exponent fs (let is = divided_out_is f.poly n f.exp in omega (arith, is.exponent_is)) are)

regroup : (t l d r s : Polynomial) → times t (times l (times (times d r) s)) ≡ times l (times d (times (times t r) s))
regroup t l d r s = simp (times_assoc, times_left_comm)

-- the cross products of n over all factors, and of what is left
lowered-value :
    (n : Polynomial) (done fs : List Factor) →
    times n (product_of_factors (lowered n done fs).factors) ≡ times (lowered n done fs).numerator
    (times (product_of_factors done) (product_of_factors fs))
lowered-value n done [] = ap (times n) (sym (times_one (product_of_factors done)))
lowered-value n done (f ∷ fs) =
    let left = divided_out f.poly n f.exp in
    let is = divided_out_is f.poly n f.exp in
    let kept = done ++ with_exponent f.poly left.exponent [] in
    let r = lowered left.numerator kept fs in
    let kept_is : product_of_factors kept ≡ times (product_of_factors done) (power f.poly left.exponent) =
    product_of_factors-append done _
    ∙ ap (times (product_of_factors done)) (product_of_factors-with_exponent f.poly left.exponent [] ∙ times_one _) in
    ap (λ m. times m (product_of_factors r.factors)) (is.numerator_is ∙ times_comm _ _) ∙ times_assoc _ _ _
    ∙ ap (times (power f.poly is.lost)) (lowered-value left.numerator kept fs)
    ∙ ap (λ x. times (power f.poly is.lost) (times r.numerator (times x (product_of_factors fs)))) kept_is
    ∙ regroup (power f.poly is.lost) r.numerator (product_of_factors done) (power f.poly left.exponent) (product_of_factors fs)
    ∙ ap (λ x. times r.numerator (times (product_of_factors done) (times x (product_of_factors fs))))
    (sym (ap (power f.poly) (sym is.exponent_is) ∙ power-sum f.poly is.lost left.exponent))

-- ---- the whole number

module _ (n : Polynomial) (d : Denominator) (is : IsDenominator d) where
  abbrev l : Lowered
  l = lowered n [] d.factors

  abbrev g : ℕ
  g = greatest_common (content l.numerator) d.whole

  greatest : IsGcd (content l.numerator) d.whole g
  greatest = greatest_common_is (content l.numerator) d.whole is.positive

  whole_is : d.whole / g * g ≡ d.whole
  whole_is = div-mul_cancel g greatest.1

  g_positive : 0 < g
  g_positive = pos_of_ne-zero (λ none. let zero_whole : d.whole ≡ 0 = eq-zero_of_zero-dvd (subst (λ k. k ∣ d.whole) none greatest.1) in
      let some = is.positive in omega arith)

  whole_positive : 0 < d.whole / g
  whole_positive = pos_of_ne-zero (λ none. let gone : 0 * g ≡ 0 = omega arith in
      let zero_whole : d.whole ≡ 0 = sym whole_is ∙ ap (λ k. k * g) none ∙ gone in let some = is.positive in omega arith)

  abbrev r : Written
  r = in_lowest_terms l d.whole

  lowest_den : IsDenominator r.den
  lowest_den = record {
    positive = whole_positive;
    within = let low = div-le_self d.whole g in let small = is.within in omega arith;
    factors = lowered_factors n [] d.factors is.factors;
  }

  coprime : IsGcd (content r.numerator) r.den.whole 1
  coprime = (
    one-dvd _,
    one-dvd _,
    λ x first second.
        dvd_of_mul-dvd-mul_right x g_positive (subst (λ k. x * g ∣ k) (sym (one-mul g))
        (greatest.2 (x * g) (content_of_part x g l.numerator greatest.0 first)
        (subst (λ k. x * g ∣ k) whole_is (mul-dvd-mul_right x second g)))),
  )

  numerator_is : times (number (pos g)) r.numerator ≡ l.numerator
  numerator_is = part_whole g l.numerator greatest.0

  number_is : number (pos d.whole) ≡ times (number (pos r.den.whole)) (number (pos g))
  number_is = ap (λ k. number (pos k)) (sym whole_is) ∙ number-product (d.whole / g) g

  lowered_is : times n (product_of_factors r.den.factors) ≡ times l.numerator (product_of_factors d.factors)
  lowered_is = lowered-value n [] d.factors ∙ ap (times l.numerator) (one_times _)

  cross_in : (m w h p : Polynomial) → times m (times (times w h) p) ≡ times w (times (times h m) p)
  cross_in m w h p = simp (times_assoc, times_comm, times_left_comm)

  cross : times r.numerator (multiplied_out d) ≡ times n (multiplied_out r.den)
  unfolding multiplied_out
  cross =
      ap (λ w. times r.numerator (times w (product_of_factors d.factors))) number_is
      ∙ cross_in r.numerator (number (pos r.den.whole)) (number (pos g)) (product_of_factors d.factors)
      ∙ ap (λ w. times (number (pos r.den.whole)) (times w (product_of_factors d.factors))) numerator_is
      ∙ ap (times (number (pos r.den.whole))) (sym lowered_is)
      ∙ times_left_comm _ _ _

  lowest-value : value r ≡ value_over n (multiplied_out d)
  unfolding value
  lowest-value = same_over r.numerator (multiplied_out r.den) n (multiplied_out d) (den_nonzero r.den lowest_den) (den_nonzero d is) cross

  numerator_nonzero : n ≢ polys.zero → r.numerator ≢ polys.zero
  unfolding times
  numerator_nonzero some none =
      let gone : times n (multiplied_out r.den) ≡ polys.zero = sym cross ∙ ap (λ w. times w (multiplied_out d)) none ∙ zero_mul polys _ in
      den_nonzero r.den lowest_den (zero_factor polys polys_domain n (multiplied_out r.den) some gone)

  pub lowest_written : n ≢ polys.zero → IsWritten r
  lowest_written some = record { den = lowest_den; lowest = coprime; zero_over_one = λ none. absurd (numerator_nonzero some none) }

-- ---- Normal

pub one_is_den : IsDenominator one_den
one_is_den = record { positive = omega arith; within = omega arith; factors = tt }

pub whole_written : (p : Polynomial) → IsWritten (whole_polynomial p)
whole_written p = record { den = one_is_den; lowest = (one-dvd _, dvd_refl 1, λ x first second. second); zero_over_one = λ none. (refl, refl) }

zero_test : (n : Polynomial) → polys.is_zero n ≡ false → n ≢ polys.zero
zero_test n told none = let yes : polys.is_zero n ≡ true = ap polys.is_zero none ∙ polys.zero_true in cc

pub normal_written : (n : Polynomial) (d : Denominator) → IsDenominator d → IsWritten (normal n d)
unfolding normal
normal_written n d is = by (polys.is_zero n) refl
  where
    by : (b : Bool) → polys.is_zero n ≡ b → IsWritten (cond b (whole_polynomial polys.zero) (in_lowest_terms (lowered n [] d.factors) d.whole))
    by true told = whole_written polys.zero
    by false told = lowest_written n d is (zero_test n told)

pub normal-value : (n : Polynomial) (d : Denominator) → IsDenominator d → value (normal n d) ≡ value_over n (multiplied_out d)
unfolding normal
normal-value n d is = by (polys.is_zero n) refl
  where
    by : (b : Bool) → polys.is_zero n ≡ b
        → value (cond b (whole_polynomial polys.zero) (in_lowest_terms (lowered n [] d.factors) d.whole)) ≡ value_over n (multiplied_out d)
    by true told =
        unfold value times in
        same_over polys.zero (multiplied_out one_den) n (multiplied_out d) (den_nonzero one_den one_is_den) (den_nonzero d is)
        (zero_mul polys _ ∙ sym (ap (λ w. times w (multiplied_out one_den)) (polys.true_zero n told) ∙ zero_mul polys _))
    by false told = lowest-value n d is

-- ---- as the code brings it about

pub normal-zero : (n : Polynomial) (d : Denominator) → n ≡ polys.zero → whole_polynomial polys.zero ≡ normal n d
unfolding normal
normal-zero n d none = ap (λ b. cond b (whole_polynomial polys.zero) (in_lowest_terms (lowered n [] d.factors) d.whole))
    (sym (ap polys.is_zero none ∙ polys.zero_true))

pub normal-nonzero : (n : Polynomial) (d : Denominator) → n ≢ polys.zero → in_lowest_terms (lowered n [] d.factors) d.whole ≡ normal n d
unfolding normal
normal-nonzero n d some = by (polys.is_zero n) refl
  where
    by : (b : Bool) → polys.is_zero n ≡ b
        → in_lowest_terms (lowered n [] d.factors) d.whole ≡ cond b (whole_polynomial polys.zero) (in_lowest_terms (lowered n [] d.factors) d.whole)
    by true told = absurd (some (polys.true_zero n told))
    by false told = refl

pub cancelled_is :
    (n q : Polynomial) (whole g : ℕ) (fs : List Factor) → 0 < whole → IsGcd (content n) whole g → q ≡ divided unit (pos g) n →
    record { numerator = q; den = record { whole = whole / g; factors = fs } } ≡ in_lowest_terms (record { numerator = n; factors = fs }) whole
cancelled_is n q whole g fs some is made =
    ap (λ m. record { numerator = m; den = record { whole = whole / g; factors = fs } }) made
    ∙ ap (λ k. cancelled k n whole fs) (greatest_common_only (content n) whole g some is)
