-- A derived fraction has the value that δ of the field gives. Main lemmas `raised_ok` and `delta-value`, which `delta` cites.
-- With D the denominator, g the product of its factors with the name and D'·g = D·s, the numerator is N'·g less N·s: over D·g
-- this is (N'·D less N·D') over D², the quotient rule.
use Rattle.ct_frac.proofs.Base.{◌≡◌, ◌≢◌, refl, ℕ, zero, suc, ◌+◌, pos, Bool, true, false, cond, Ok, Err, List, [], ◌∷◌, ◌++◌, take, sym, ◌∙◌, ap}
use Rattle.ct_frac.proofs.Base.{ap₂, subst, arith, Action, Derive, sigma_by, delta_by, derived, plain, coefficients, derived-number, Name, Polynomial}
use Rattle.ct_frac.proofs.Base.{polys, polys_domain, plus, times, times_assoc, mul_zero, ring2, ring4, ring6, ring8, linear1, reify, number}
use Rattle.ct_frac.proofs.Base.{fractions, Checked, both_fit, verdict_ok, ◌>>=◌, checked_minus, checked_times, checked_derived}
use Rattle.ct_algebra.specs.FractionOre.{delta_of, δ_value-value}
use Rattle.ct_frac.specs.declared.factor.Factor.{Factor}
use Rattle.ct_frac.specs.Arithmetic.{checked_exponent}
use Rattle.ct_frac.specs.Normal.{normal}
use Rattle.ct_frac.specs.Symbols.{has_name, with_name, checked_once, checked_part, checked_without_parts, checked_raised, checked_delta}
use Rattle.ct_frac.specs.Written.{Denominator, Written, IsBelow, AreFactors, IsDenominator, IsWritten, power, product_of_factors, multiplied_out}
use Rattle.ct_frac.specs.Written.{value, value_over}
use Rattle.ct_frac.proofs.Clearing.{times_ok}
use Rattle.ct_frac.proofs.Denominators.{den_nonzero}
use Rattle.ct_frac.proofs.JoinedFactors.{same_ok}
use Rattle.ct_frac.proofs.Limits.{exponent_ok}
use Rattle.ct_frac.proofs.NormalLaws.{normal-value}
use Rattle.ct_frac.proofs.Products.{times_one, one_times}
use Rattle.ct_frac.proofs.Quotients.{ratio, value_over-ratio}
use Rattle.ct_frac.proofs.Slopes.{once, once-append, slope, derived-times, product_slope}
use Rattle.ct_frac.proofs.SumLaws.{minus_ok, minus_is}
use Rattle.ct_algebra.specs.Actions as actions

-- ---- as the code takes the steps

pub once_both : (p : Polynomial) (fs gs : List Factor) → checked_once p (fs ++ gs) ≡ (checked_once p fs >>= (λ q. checked_once q gs))
once_both p [] gs = refl
once_both p (f ∷ fs) gs = by (checked_times p f.poly) (λ q. once_both q fs gs)
  where
    by :
        (c : Checked Polynomial) → ((q : Polynomial) → checked_once q (fs ++ gs) ≡ (checked_once q fs >>= (λ r. checked_once r gs))) →
        (c >>= (λ q. checked_once q (fs ++ gs))) ≡ ((c >>= (λ q. checked_once q fs)) >>= (λ q. checked_once q gs))
    by (Ok q) more = more q
    by (Err kind) more = refl

pub next_taken :
    (k : ℕ) (fs : List Factor) (f : Factor) (more : List Factor) → take k fs ++ f ∷ more ≡ fs → take (k + 1) fs ≡ take k fs ++ f ∷ []
next_taken zero fs f more same = ap (take 1) (sym same)
next_taken (suc k) [] f more same = cc
next_taken (suc k) (g ∷ gs) f more same =
    let rest : take k gs ++ f ∷ more ≡ gs = cc in
    let moved : suc k + 1 ≡ suc (k + 1) = omega arith in
    ap (λ n. take n (g ∷ gs)) moved ∙ ap (λ hs. g ∷ hs) (next_taken k gs f more rest)

module _ (i : Name) where
  pub part_taken :
      (n p part q : Polynomial) (done : List Factor) (f : Factor) (more : List Factor) → checked_part i n f (done ++ more) ≡ Ok part →
      checked_minus p part ≡ Ok q → checked_without_parts i n p done (f ∷ more) ≡ checked_without_parts i n q (done ++ f ∷ []) more
  part_taken n p part q done f more made less =
      ap (λ c. c >>= (λ x. checked_minus p x >>= (λ y. checked_without_parts i n y (done ++ f ∷ []) more))) made
      ∙ ap (λ c. c >>= (λ y. checked_without_parts i n y (done ++ f ∷ []) more)) less

  -- ---- the numerator

  derived_ok : (p q : Polynomial) → checked_derived i p ≡ Ok q → derived i p ≡ q
  unfolding checked_derived
  derived_ok p q fits = verdict_ok _ (derived i p) q fits

  once_ok : (p : Polynomial) (fs : List Factor) (q : Polynomial) → checked_once p fs ≡ Ok q → times p (once fs) ≡ q
  once_ok p [] q fits = times_one p ∙ same_ok p q fits
  once_ok p (f ∷ fs) q fits =
      let both = both_fit (checked_times p f.poly) (λ r. checked_once r fs) q fits in
      sym (times_assoc p f.poly (once fs)) ∙ ap (λ w. times w (once fs)) (times_ok p f.poly both.value both.first)
      ∙ once_ok both.value fs q both.rest

  part_ok :
      (n : Polynomial) (f : Factor) (others : List Factor) (r : Polynomial) → checked_part i n f others ≡ Ok r →
      times (times (times n (number (pos f.exp))) (derived i f.poly)) (once others) ≡ r
  unfolding checked_part
  part_ok n f others r fits =
      let slope = both_fit (checked_derived i f.poly) _ r fits in
      let rest = both_fit (checked_once polys.one others) _ r slope.rest in
      let often = both_fit (checked_times n (number (pos f.exp))) _ r rest.rest in
      let part = both_fit (checked_times often.value slope.value) _ r often.rest in
      ap₂ times
      (ap₂ times (times_ok n (number (pos f.exp)) often.value often.first) (derived_ok f.poly slope.value slope.first)
      ∙ times_ok often.value slope.value part.value part.first)
      (sym (one_times (once others)) ∙ once_ok polys.one others rest.value rest.first)
      ∙ times_ok part.value rest.value r part.rest

  without_parts_ok :
      (n p q : Polynomial) (done fs : List Factor) → checked_without_parts i n p done fs ≡ Ok q →
      plus q (times n (times (once done) (slope i fs))) ≡ p
  unfolding times plus
  without_parts_ok n p q done [] fits =
      ap (λ w. plus q (times n w)) (mul_zero polys (once done)) ∙ ap (plus q) (mul_zero polys n) ∙ polys.add_zero q ∙ sym (same_ok p q fits)
  without_parts_ok n p q done (f ∷ fs) fits =
      let part = both_fit (checked_part i n f (done ++ fs)) _ q fits in
      let less = both_fit (checked_minus p part.value) _ q part.rest in
      let d = once done in
      let o = once fs in
      let s = slope i fs in
      let k = number (pos f.exp) in
      let more : plus q (times n (times (times d (times f.poly polys.one)) s)) ≡ less.value =
      ap (λ w. plus q (times n (times w s))) (sym (once-append done (f ∷ []))) ∙ without_parts_ok n less.value q (done ++ f ∷ []) fs less.rest in
      let taken : times (times (times n k) (derived i f.poly)) (times d o) ≡ part.value =
      ap (times (times (times n k) (derived i f.poly))) (sym (once-append done fs)) ∙ part_ok n f (done ++ fs) part.value part.first in
      ring8 polys q n d k (derived i f.poly) o f.poly s (λ a b c e g h j l. (search reify depth 30, search reify depth 30)) refl
      ∙ ap₂ plus (more ∙ sym (minus_ok p part.value less.value less.first) ∙ minus_is p part.value) taken
      ∙ ring2 polys p part.value (λ a b. (search reify depth 20, search reify depth 20)) refl

  -- ---- the denominator

  -- exponents are one higher where the name is
  pub record Raised (fs gs : List Factor) : Type 0 where
    pub factors : AreFactors gs
    pub below : (p : Polynomial) → IsBelow p fs → IsBelow p gs
    pub product : product_of_factors gs ≡ times (product_of_factors fs) (once (with_name i fs))

  raised_power : (f : Factor) (b : Bool) (e : ℕ) (p o : Polynomial) (fs : List Factor) → f.exp + cond b 1 0 ≡ e → o ≡ once fs
      → times (power f.poly e) (times p o) ≡ times (times (power f.poly f.exp) p) (once (cond b (f ∷ fs) fs))
  unfolding times
  raised_power f true e p o fs same is =
      let more : e ≡ suc f.exp = omega arith in
      ap (λ n. times (power f.poly n) (times p o)) more
      ∙ ring4 polys f.poly (power f.poly f.exp) p o (λ a b c d. (search reify depth 20, search reify depth 20)) refl
      ∙ ap (λ w. times (times (power f.poly f.exp) p) (times f.poly w)) is
  raised_power f false e p o fs same is =
      let still : e ≡ f.exp = omega arith in
      ap (λ n. times (power f.poly n) (times p o)) still ∙ sym (times_assoc (power f.poly f.exp) p o)
      ∙ ap (times (times (power f.poly f.exp) p)) is

  pub raised_ok : (fs gs : List Factor) → checked_raised i fs ≡ Ok gs → AreFactors fs → Raised fs gs
  raised_ok [] gs fits are =
      subst (Raised []) (same_ok [] gs fits) (record { factors = tt; below = λ p below. tt; product = sym (one_times polys.one) })
  raised_ok (f ∷ fs) gs fits are =
      let exponent = both_fit (checked_exponent (f.exp + cond (has_name i f.poly) 1 0)) _ gs fits in
      let rest = both_fit (checked_raised i fs) (λ hs. Ok (record { poly = f.poly; exp = exponent.value } ∷ hs)) gs exponent.rest in
      let kept = exponent_ok (f.exp + cond (has_name i f.poly) 1 0) exponent.value exponent.first in
      let more = raised_ok fs rest.value rest.first are.1.1 in
      subst (Raised (f ∷ fs)) (same_ok (record { poly = f.poly; exp = exponent.value } ∷ rest.value) gs rest.rest) (record {
        factors = (
          record { base = are.0.base; some = let some = are.0.some in let same = kept.same in omega arith; few = kept.low },
          (more.below f.poly are.1.0, more.factors),
        );
        below = λ p below. (below.0, more.below p below.1);
        product = ap (times (power f.poly exponent.value)) more.product
            ∙ raised_power f (has_name i f.poly) exponent.value (product_of_factors fs) (once (with_name i fs)) (with_name i fs) kept.same refl;
      })

  pub raised_den : (d : Denominator) (gs : List Factor) → IsDenominator d → checked_raised i d.factors ≡ Ok gs →
      IsDenominator (record { whole = d.whole; factors = gs })
  raised_den d gs is fits =
      record { positive = is.positive; within = is.within; factors = (raised_ok d.factors gs fits is.factors).factors }

  -- ---- the value

  multiplied_out-raised :
      (d : Denominator) (gs : List Factor) → IsDenominator d → checked_raised i d.factors ≡ Ok gs →
      multiplied_out (record { whole = d.whole; factors = gs }) ≡ times (multiplied_out d) (once (with_name i d.factors))
  unfolding multiplied_out
  multiplied_out-raised d gs is fits =
      ap (times (number (pos d.whole))) (raised_ok d.factors gs fits is.factors).product ∙ sym (times_assoc _ _ _)

  -- the derivative of the denominator, times the product of the factors with the name
  den_slope :
      (d : Denominator) → times (derived i (multiplied_out d)) (once (with_name i d.factors)) ≡ times (multiplied_out d)
      (slope i (with_name i d.factors))
  unfolding multiplied_out times plus
  den_slope d =
      let w = number (pos d.whole) in
      let p = product_of_factors d.factors in
      let o = once (with_name i d.factors) in
      ap (λ v. times v o) (derived-times i w p ∙ ap (λ v. plus (times w (derived i p)) (times v p)) (derived-number i (pos d.whole)))
      ∙ ring4 polys w p (derived i p) o (λ a b c e. (search reify depth 20, search reify depth 20)) refl
      ∙ ap (times w) (product_slope i d.factors)
      ∙ sym (times_assoc w p (slope i (with_name i d.factors)))

  -- the quotient rule over D·g and over D²
  same_quotient :
      (n m d e g s x : Polynomial) → times e g ≡ times d s → plus x (times n (times polys.one s)) ≡ times m (times polys.one g) →
      times x (times d d) ≡ times (plus (times m d) (polys.neg (times n e))) (times d g)
  unfolding times plus
  same_quotient n m d e g s x slopes left =
      ap (λ w. times w (times d d)) (taken ∙ ap (λ w. plus w (polys.neg (times n s))) left)
      ∙ linear1 polys (times n d) slopes
      (ring6 polys n m d e g s (λ a b c h j k. (search reify depth 30, search reify depth 30)) refl)
    where
      taken : x ≡ plus (plus x (times n (times polys.one s))) (polys.neg (times n s))
      taken = ring4 polys x n s polys.zero (λ a b c d. (search reify depth 20, search reify depth 20)) refl

  delta_by-derived : (t : Action) (p : Polynomial) → t ≡ Derive → delta_by t i p ≡ derived i p
  delta_by-derived t p derives = ap (λ u. delta_by u i p) derives

  sigma_by-same : (t : Action) (p : Polynomial) → t ≡ Derive → sigma_by t i p ≡ p
  sigma_by-same t p derives = ap (λ u. sigma_by u i p) derives

  -- what has the numerator of the quotient rule over another denominator
  over_derived :
      (a : Name → Action) (n d x e : Polynomial) → d ≢ polys.zero → e ≢ polys.zero → a i ≡ Derive →
      times x (times d d) ≡ times (plus (times (derived i n) d) (polys.neg (times n (derived i d)))) e →
      value_over x e ≡ (coefficients a).δ i (value_over n d)
  unfolding times plus
  over_derived a n d x e some other derives cross =
      value_over-ratio x e other
      ∙ fractions.equal (ratio x e other) (delta_of polys polys_domain (actions.polynomials a) (plain a) i (ratio n d some))
      (ap (λ v. times x (times d v)) (sigma_by-same (a i) d derives)
      ∙ cross
      ∙ sym (ap₂ (λ u v. times (plus u (polys.neg v)) e)
      (ap₂ times (delta_by-derived (a i) n derives) (sigma_by-same (a i) d derives))
      (ap₂ times (sigma_by-same (a i) n derives) (delta_by-derived (a i) d derives))))
      ∙ sym (δ_value-value polys polys_domain (actions.polynomials a) (plain a) i (ratio n d some))
      ∙ ap ((coefficients a).δ i) (sym (value_over-ratio n d some))

  pub delta-value :
      (w r : Written) → IsWritten w → checked_delta i w ≡ Ok r → (a : Name → Action) → a i ≡ Derive →
      value r ≡ (coefficients a).δ i (value w)
  unfolding checked_delta value
  delta-value w r is answer a derives =
      let named = with_name i w.den.factors in
      let once_all = both_fit (checked_once polys.one named) _ r answer in
      let derivative = both_fit (checked_derived i w.numerator) _ r once_all.rest in
      let start = both_fit (checked_times derivative.value once_all.value) _ r derivative.rest in
      let left = both_fit (checked_without_parts i w.numerator start.value [] named) _ r start.rest in
      let factors = both_fit (checked_raised i w.den.factors) _ r left.rest in
      let e : Denominator = record { whole = w.den.whole; factors = factors.value } in
      let den = raised_den w.den factors.value is.den factors.first in
      let d = multiplied_out w.den in
      let begun : times (derived i w.numerator) (times polys.one (once named)) ≡ start.value =
      ap₂ times (derived_ok w.numerator derivative.value derivative.first) (once_ok polys.one named once_all.value once_all.first)
      ∙ times_ok derivative.value once_all.value start.value start.first in
      let cross = same_quotient w.numerator (derived i w.numerator) d (derived i d) (once named) (slope i named) left.value (den_slope w.den)
      (without_parts_ok w.numerator start.value left.value [] named left.first ∙ sym begun) in
      ap value (sym (same_ok (normal left.value e) r factors.rest))
      ∙ normal-value left.value e den
      ∙ over_derived a w.numerator d left.value (multiplied_out e) (den_nonzero w.den is.den) (den_nonzero e den) derives
      (cross ∙ ap (times (plus (times (derived i w.numerator) d) (polys.neg (times w.numerator (derived i d)))))
      (sym (multiplied_out-raised w.den factors.value is.den factors.first)))
