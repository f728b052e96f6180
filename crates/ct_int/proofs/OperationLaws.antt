-- What the calls of `Rat` compute is what they promise: sums over the least denominator, differences and quotients by an opposite
-- and a reciprocal.
-- Main lemmas: `lowest-sum`, `sum_of_ratios-opposite` and `product_of_ratios-reciprocal`.
-- Both sides are brought to one product of natural numbers, and a reciprocal goes by the cases of the sign.
use Rattle.ct_int.proofs.Base.{◌≡◌, ◌≢◌, ℕ, zero, suc, ◌+◌, ◌*◌, ◌/◌, ◌<◌, ◌≤◌, ℤ, pos, negsuc, ◌+ℤ◌, ◌*ℤ◌, ◌<ℤ◌, ◌≤ℤ◌, neg_ℤ, unsigned_abs, Ok, Err}
use Rattle.ct_int.proofs.Base.{IsGcd, ◌∣◌, refl, sym, ◌∙◌, ap, ap₂, arith, Result, ⊎_elim, ints, IsGcd-swap, same_from_IsGcd, le_of_dvd}
use Rattle.ct_int.proofs.Base.{div-mul_cancel, pos_of_dvd_of_pos, mul-pos, mul_comm}
use Rattle.std.proofs.lemmas.Nat.{le-div}
use Rattle.ct_int.proofs.Scaling.{scaled_twice, scaled_sum, scaled_negated, times_negated}
use Rattle.ct_int.proofs.LowestTerms.{same_value-trans}
use Rattle.ct_int.specs.Rational.{Ratio, ratio, IsLowest, IsLowestTerms, opposite_of, sum_of_ratios, difference_of_ratios, product_of_ratios}
use Rattle.ct_int.specs.Rational.{quotient_of_ratios}
use Rattle.ct_int.specs.Limits.{largest_whole, IsRational, SumPasses, RefusesWhere}
use Rattle.ct_int.specs.declared.fault.IntFault.{IntFault}

-- ---- sums

-- b·(b/g)·d and the like, with b = e·g and d = f·g
sum_places : (b d e f g : ℕ) → e * g ≡ b → f * g ≡ d → f * (b * d) ≡ d * (e * d)
sum_places b d e f g first second = rw (← first, ← second) (omega arith)

sum_places-other : (b d e : ℕ) → e * (b * d) ≡ b * (e * d)
sum_places-other b d e = omega arith

same_sum :
    (x y : ℤ) (b d e f g : ℕ) →
    e * g ≡ b →
    f * g ≡ d →
    (x *ℤ pos f +ℤ y *ℤ pos e) *ℤ pos (b * d) ≡ (x *ℤ pos d +ℤ y *ℤ pos b) *ℤ pos (e * d)
same_sum x y b d e f g first second =
    scaled_sum (x *ℤ pos f) (y *ℤ pos e) (b * d)
    ∙ ap₂ (λ m n. m +ℤ n) (scaled_twice x f (b * d) ∙ ap (λ n. x *ℤ pos n) (sum_places b d e f g first second) ∙ sym (scaled_twice x d (e * d)))
    (scaled_twice y e (b * d) ∙ ap (λ n. y *ℤ pos n) (sum_places-other b d e) ∙ sym (scaled_twice y b (e * d)))
    ∙ sym (scaled_sum (x *ℤ pos d) (y *ℤ pos b) (e * d))

quotient-positive : (n k : ℕ) → 0 < k → 0 < n → k ∣ n → 0 < n / k
quotient-positive n k some positive divides =
    let upto : k ≤ n = le_of_dvd positive divides in le-div 1 n k some (omega arith)

pub sum_den-positive : (p q : Ratio) (g : ℕ) → IsLowest p → IsLowest q → IsGcd p.den q.den g → 0 < p.den / g * q.den
sum_den-positive p q g first second greatest =
    mul-pos (quotient-positive p.den g (pos_of_dvd_of_pos greatest.1 second.positive) first.positive greatest.0) second.positive

pub lowest-sum :
    (p q r : Ratio) (g : ℕ) →
    IsLowest p →
    IsLowest q →
    IsGcd p.den q.den g →
    IsLowestTerms (ratio (p.num *ℤ pos (q.den / g) +ℤ q.num *ℤ pos (p.den / g)) (pos (p.den / g * q.den))) r →
    IsLowestTerms (sum_of_ratios p q) r
lowest-sum p q r g first second greatest terms =
    let added = ratio (p.num *ℤ pos (q.den / g) +ℤ q.num *ℤ pos (p.den / g)) (pos (p.den / g * q.den)) in
    record {
      lowest = terms.lowest;
      same = same_value-trans r added (sum_of_ratios p q) (sum_den-positive p q g first second greatest) terms.same
          (same_sum p.num q.num p.den q.den (p.den / g) (q.den / g) g (div-mul_cancel g greatest.0) (div-mul_cancel g greatest.1));
    }

pub sum-fits :
    (p q : Ratio) (g : ℕ) →
    IsGcd p.den q.den g →
    unsigned_abs p.num * (q.den / g) + unsigned_abs q.num * (p.den / g) ≤ largest_whole →
    p.den / g * q.den ≤ largest_whole →
    SumPasses p q →
    ⊥
sum-fits p q g greatest num den passes =
    let same : passes.divisor ≡ g = same_from_IsGcd p.den q.den passes.divisor g passes.greatest greatest in
    ⊎_elim
    (λ past. let far : largest_whole < unsigned_abs p.num * (q.den / g) + unsigned_abs q.num * (p.den / g) = rw same at past in
    omega (arith, far, num))
    (λ past. let far : largest_whole < p.den / g * q.den = rw same at past in omega (arith, far, den)) passes.past

-- ---- opposites and reciprocals

pub abs-neg : (x : ℤ) → unsigned_abs (neg_ℤ x) ≡ unsigned_abs x
abs-neg (pos zero) = refl
abs-neg (pos (suc n)) = refl
abs-neg (negsuc n) = refl

pub IsRational-opposite : (r : Ratio) → IsRational r → IsRational (opposite_of r)
IsRational-opposite r h = record {
  lowest = record { positive = h.lowest.positive; coprime = rw (abs-neg r.num) h.lowest.coprime };
  num_within = rw (abs-neg r.num) h.num_within;
  den_within = h.den_within;
}

pub sum_of_ratios-opposite : (p q : Ratio) → sum_of_ratios p (opposite_of q) ≡ difference_of_ratios p q
sum_of_ratios-opposite p q =
    let made : ℤ → Ratio = λ n. record { num = n; den = p.den * q.den } in
    ap made (ap (λ z. p.num *ℤ pos q.den +ℤ z) (scaled_negated q.num p.den))

pub SumPasses-opposite : (p q : Ratio) → SumPasses p (opposite_of q) → SumPasses p q
SumPasses-opposite p q h = record { divisor = h.divisor; greatest = h.greatest; past = rw (abs-neg q.num) at h.past }

pub SumPasses-to_opposite : (p q : Ratio) → SumPasses p q → SumPasses p (opposite_of q)
SumPasses-to_opposite p q h =
    record { divisor = h.divisor; greatest = h.greatest; past = rw (abs-neg q.num) h.past }

pub IsRational-reciprocal : (r : Ratio) → IsRational r → r.num ≢ pos 0 → IsRational (ratio (pos r.den) r.num)
IsRational-reciprocal r h other = by r.num r.den h.lowest.positive h.lowest.coprime h.num_within h.den_within other
  where
    by : (n : ℤ) (d : ℕ) → 0 < d → IsGcd (unsigned_abs n) d 1 → unsigned_abs n ≤ largest_whole → d ≤ largest_whole → n ≢ pos 0 →
        IsRational (ratio (pos d) n)
    by (pos zero) d some coprime num den other = absurd (other refl)
    by (pos (suc n)) d some coprime num den other = record {
      lowest = record { positive = omega arith; coprime = IsGcd-swap (suc n) d 1 coprime };
      num_within = den;
      den_within = num;
    }
    by (negsuc n) d some coprime num den other = record {
      lowest = record { positive = omega arith; coprime = rw (abs-neg (pos d)) (IsGcd-swap (suc n) d 1 coprime) };
      num_within = rw (abs-neg (pos d)) den;
      den_within = num;
    }

pub ratio-negative : (m n : ℤ) → n <ℤ pos 0 → ratio m n ≡ ratio (neg_ℤ m) (pos (unsigned_abs n))
ratio-negative m (pos n) below = absurd (omega (arith, ints))
ratio-negative m (negsuc n) below = refl

pub ratio-positive : (m n : ℤ) → pos 0 ≤ℤ n → ratio m n ≡ ratio m (pos (unsigned_abs n))
ratio-positive m (pos n) above = refl
ratio-positive m (negsuc n) above = absurd (omega (arith, ints))

ratio-of_negated : (n : ℤ) (m : ℕ) → 0 < m → ratio n (neg_ℤ (pos m)) ≡ ratio (neg_ℤ n) (pos m)
ratio-of_negated n zero some = absurd (omega arith)
ratio-of_negated n (suc m) some = refl

pub product_of_ratios-reciprocal : (p q : Ratio) → 0 < p.den → product_of_ratios p (ratio (pos q.den) q.num) ≡ quotient_of_ratios p q
product_of_ratios-reciprocal p q first = by q.num
  where
    by : (n : ℤ) → product_of_ratios p (ratio (pos q.den) n) ≡ ratio (p.num *ℤ pos q.den) (n *ℤ pos p.den)
    by (pos n) = ap (λ d. ratio (p.num *ℤ pos q.den) (pos d)) (mul_comm p.den n)
    by (negsuc n) =
        ap₂ (λ m d. ratio m (pos d)) (times_negated p.num q.den) (mul_comm p.den (suc n))
        ∙ sym (ratio-of_negated (p.num *ℤ pos q.den) (suc n * p.den) (mul-pos (omega arith) first))

-- a refusal is judged alike by facts that follow from each other
pub refuses-same :
    {A : Type 0} (fault : IntFault) (P Q : Type 0) (r : Result A IntFault) →
    (P → Q) →
    (Q → P) →
    RefusesWhere fault P r →
    RefusesWhere fault Q r
refuses-same fault P Q (Ok r) there back h = λ q. h (back q)
refuses-same fault P Q (Err e) there back h = (h.0, there h.1)
