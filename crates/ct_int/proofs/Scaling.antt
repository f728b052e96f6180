-- Whole numbers times natural ones: both sides of an equation or an order may be scaled by a positive number.
-- Main lemmas: `scaled_same` and `int_cmp-scaled`, which the laws of values and of their order rest on.
-- By the cases of the signs, where a product computes, or by induction on the natural number.
use Rattle.ct_int.proofs.Base.{◌≡◌, ℕ, zero, suc, ◌*◌, ◌/◌, ◌<◌, ℤ, pos, negsuc, ◌+ℤ◌, ◌*ℤ◌, ◌≤ℤ◌, ◌<ℤ◌, neg_ℤ, unsigned_abs, ◌∣◌, refl, sym, ◌∙◌, ap}
use Rattle.ct_int.proofs.Base.{arith, Less, Equal, Greater, ints, int_cmp, MatchOrdering, int_cmp_is, int_ranks, Ordering, mul_assoc, mul_right_comm}
use Rattle.ct_int.proofs.Base.{mul_comm, zero-mul, div-mul_cancel}
use lib.IntN.{*ℤ_comm, *ℤ-zero, *ℤ-negsuc, neg_ℤ-neg_ℤ, suc_ℤ-*ℤ}

-- ---- products by the cases of the signs

-- minus a number, times a number
negated-times : (m k : ℕ) → neg_ℤ (pos m) *ℤ pos k ≡ neg_ℤ (pos (m * k))
negated-times zero k = rw (zero-mul k) refl
negated-times (suc m) k = refl

negated-times_negsuc : (m k : ℕ) → neg_ℤ (pos m) *ℤ negsuc k ≡ pos (m * suc k)
negated-times_negsuc zero k = rw (zero-mul (suc k)) refl
negated-times_negsuc (suc m) k = refl

pub scaled_twice : (x : ℤ) (j k : ℕ) → (x *ℤ pos j) *ℤ pos k ≡ x *ℤ pos (j * k)
scaled_twice (pos n) j k = ap pos (mul_assoc n j k)
scaled_twice (negsuc n) j k = negated-times (suc n * j) k ∙ ap (λ m. neg_ℤ (pos m)) (mul_assoc (suc n) j k)

pub scaled_comm : (x : ℤ) (j k : ℕ) → (x *ℤ pos j) *ℤ pos k ≡ (x *ℤ pos k) *ℤ pos j
scaled_comm x j k = scaled_twice x j k ∙ ap (λ m. x *ℤ pos m) (mul_comm j k) ∙ sym (scaled_twice x k j)

-- a product is scaled at its first factor
pub scaled_product : (x y : ℤ) (k : ℕ) → (x *ℤ y) *ℤ pos k ≡ (x *ℤ pos k) *ℤ y
scaled_product (pos m) (pos n) k = ap pos (mul_right_comm m n k)
scaled_product (pos m) (negsuc n) k = negated-times (m * suc n) k ∙ ap (λ i. neg_ℤ (pos i)) (mul_right_comm m (suc n) k)
scaled_product (negsuc m) (pos n) k = negated-times (suc m * n) k ∙ ap (λ i. neg_ℤ (pos i)) (mul_right_comm (suc m) n k)
    ∙ sym (negated-times (suc m * k) n)
scaled_product (negsuc m) (negsuc n) k = ap pos (mul_right_comm (suc m) (suc n) k) ∙ sym (negated-times_negsuc (suc m * k) n)

pub scaled_negated : (x : ℤ) (k : ℕ) → neg_ℤ x *ℤ pos k ≡ neg_ℤ (x *ℤ pos k)
scaled_negated (pos n) k = negated-times n k
scaled_negated (negsuc n) k = twice (suc n * k)
  where
    twice : (m : ℕ) → pos m ≡ neg_ℤ (neg_ℤ (pos m))
    twice m = omega (arith, ints)

pub times_negated : (x : ℤ) (k : ℕ) → x *ℤ neg_ℤ (pos k) ≡ neg_ℤ (x *ℤ pos k)
times_negated x zero = *ℤ-zero x ∙ sym (ap neg_ℤ (*ℤ-zero x))
times_negated x (suc k) = *ℤ-negsuc x k

-- two signs cancel
pub both_negated : (x : ℤ) (j k : ℕ) → (x *ℤ neg_ℤ (pos j)) *ℤ neg_ℤ (pos k) ≡ (x *ℤ pos j) *ℤ pos k
both_negated x j k =
    times_negated (x *ℤ neg_ℤ (pos j)) k ∙ ap (λ z. neg_ℤ (z *ℤ pos k)) (times_negated x j) ∙ ap neg_ℤ (scaled_negated (x *ℤ pos j) k)
    ∙ neg_ℤ-neg_ℤ ((x *ℤ pos j) *ℤ pos k)

-- a whole number divided by a divisor of its size, by the sign
pub exact-negative : (x : ℤ) (k : ℕ) → k ∣ unsigned_abs x → x <ℤ pos 0 → neg_ℤ (pos (unsigned_abs x / k)) *ℤ pos k ≡ x
exact-negative (pos n) k divides below = absurd (omega (arith, ints))
exact-negative (negsuc n) k divides below =
    negated-times (suc n / k) k ∙ ap (λ m. neg_ℤ (pos m)) (div-mul_cancel k divides)

pub exact-positive : (x : ℤ) (k : ℕ) → k ∣ unsigned_abs x → pos 0 ≤ℤ x → pos (unsigned_abs x / k) *ℤ pos k ≡ x
exact-positive (pos n) k divides above = ap pos (div-mul_cancel k divides)
exact-positive (negsuc n) k divides above = absurd (omega (arith, ints))

-- ---- sums and the order, by induction on the scale

scaled_suc : (x : ℤ) (k : ℕ) → x *ℤ pos (suc k) ≡ x *ℤ pos k +ℤ x
scaled_suc x k = *ℤ_comm x (pos (suc k)) ∙ suc_ℤ-*ℤ (pos k) x ∙ ap (λ y. y +ℤ x) (*ℤ_comm (pos k) x)

pub scaled_sum : (x y : ℤ) (k : ℕ) → (x +ℤ y) *ℤ pos k ≡ x *ℤ pos k +ℤ y *ℤ pos k
scaled_sum x y zero = omega (arith, ints, *ℤ-zero (x +ℤ y), *ℤ-zero x, *ℤ-zero y)
scaled_sum x y (suc k) = omega (arith, ints, scaled_suc (x +ℤ y) k, scaled_suc x k, scaled_suc y k, scaled_sum x y k)

scaled_upto : (x y : ℤ) (k : ℕ) → x ≤ℤ y → (x *ℤ pos k) ≤ℤ (y *ℤ pos k)
scaled_upto x y zero h = omega (arith, ints, *ℤ-zero x, *ℤ-zero y)
scaled_upto x y (suc k) h = omega (arith, ints, scaled_suc x k, scaled_suc y k, scaled_upto x y k h)

scaled_below : (x y : ℤ) (k : ℕ) → 0 < k → x <ℤ y → (x *ℤ pos k) <ℤ (y *ℤ pos k)
scaled_below x y zero some h = absurd (omega arith)
scaled_below x y (suc k) some h =
    omega (arith, ints, scaled_suc x k, scaled_suc y k, scaled_upto x y k (omega (arith, ints)))

pub int_cmp-scaled : (x y : ℤ) (k : ℕ) → 0 < k → int_cmp x y ≡ int_cmp (x *ℤ pos k) (y *ℤ pos k)
int_cmp-scaled x y k some = int_cmp_is (x *ℤ pos k) (y *ℤ pos k) (int_cmp x y) (scaled (int_cmp x y) (int_ranks x y))
  where
    scaled : (o : Ordering) → MatchOrdering o (x <ℤ y) (x ≡ y) (y <ℤ x) →
        MatchOrdering o ((x *ℤ pos k) <ℤ (y *ℤ pos k)) (x *ℤ pos k ≡ y *ℤ pos k) ((y *ℤ pos k) <ℤ (x *ℤ pos k))
    scaled Less h = scaled_below x y k some h
    scaled Equal h = ap (λ z. z *ℤ pos k) h
    scaled Greater h = scaled_below y x k some h

-- a positive scale is cancelled
pub scaled_same : (x y : ℤ) (k : ℕ) → 0 < k → x *ℤ pos k ≡ y *ℤ pos k → x ≡ y
scaled_same x y k some same = by (int_cmp x y) (int_ranks x y)
  where
    by : (o : Ordering) → MatchOrdering o (x <ℤ y) (x ≡ y) (y <ℤ x) → x ≡ y
    by Less h = absurd (let below : (x *ℤ pos k) <ℤ (y *ℤ pos k) = scaled_below x y k some h in omega (arith, ints))
    by Equal h = h
    by Greater h = absurd (let below : (y *ℤ pos k) <ℤ (x *ℤ pos k) = scaled_below y x k some h in omega (arith, ints))
