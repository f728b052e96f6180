-- Greatest common divisors: Euclid's lemma, and what it says of coprime numbers.
-- Main lemma: `same_denominators`, at the end, which `LowestTerms` rests on; `divides_other` is Euclid's lemma.
-- A common divisor of k·a and k·b divides k·g, by the steps of Euclid's algorithm (`IsGcd-scaled`); with g = 1, a number that
-- divides b·c and shares no divisor with b divides c.
use Rattle.ct_int.proofs.Base.{◌≡◌, ℕ, zero, suc, ◌*◌, ◌+◌, ◌/◌, ◌%◌, ◌<◌, IsGcd, ◌∣◌, refl, sym, ◌∙◌, ap, arith, subst, dvd_refl, IsGcd-from_zero}
use Rattle.ct_int.proofs.Base.{IsGcd-from_mod, IsGcd-swap, same_from_IsGcd, dvd_trans, dvd_antisymm, mul_assoc, mul_comm, mul-one, one-mul, mul-add}
use Rattle.ct_int.proofs.Base.{mod-lt, div-add-mod, div-mul_cancel, dvd-mod_iff, dvd-add_iff_right, dvd-mul_left, dvd-mul_right_of_dvd}
use Rattle.ct_int.proofs.Base.{mul-dvd-mul_left, mul-dvd-mul_right, dvd_of_mul-dvd-mul_right, one-dvd}

IsGcd-into_mod : (a b g : ℕ) → IsGcd a b g → IsGcd b (a % b) g
IsGcd-into_mod a b g h = (h.1, (dvd-mod_iff g h.1).1 h.0, λ d p q. h.2 d ((dvd-mod_iff d p).0 q) p)

-- a divisor of k·a and k·b divides k times the remainder
scaled_rest : (k a b d : ℕ) → d ∣ k * a → d ∣ k * b → d ∣ k * (a % b)
scaled_rest k a b d p q =
    let whole : k * (b * (a / b)) + k * (a % b) ≡ k * a = sym (mul-add k (b * (a / b)) (a % b)) ∙ ap (λ n. k * n) (div-add-mod a b) in
    let first : d ∣ k * (b * (a / b)) = subst (λ n. d ∣ n) (mul_assoc k b (a / b)) (dvd-mul_right_of_dvd d q (a / b)) in
    (dvd-add_iff_right d first).1 (subst (λ n. d ∣ n) (sym whole) p)

-- by Euclid's steps, at most n of them
scaled_steps : (n k a b g d : ℕ) → b < n → IsGcd a b g → d ∣ k * a → d ∣ k * b → d ∣ k * g
scaled_steps zero k a b g d few h p q = absurd (omega arith)
scaled_steps (suc n) k a zero g d few h p q =
    subst (λ z. d ∣ k * z) (same_from_IsGcd a 0 a g (IsGcd-from_zero a 0 refl) h) p
scaled_steps (suc n) k a (suc b) g d few h p q =
    let less : a % suc b < suc b = mod-lt a (omega arith) in
    scaled_steps n k (suc b) (a % suc b) g d (omega arith) (IsGcd-into_mod a (suc b) g h) q (scaled_rest k a (suc b) d p q)

pub IsGcd-scaled : (k a b g : ℕ) → IsGcd a b g → IsGcd (k * a) (k * b) (k * g)
IsGcd-scaled k a b g h =
    (mul-dvd-mul_left g k h.0, mul-dvd-mul_left g k h.1, λ d p q. scaled_steps (suc b) k a b g d (omega arith) h p q)

-- Euclid's lemma
pub divides_other : (a b c : ℕ) → IsGcd a b 1 → a ∣ b * c → a ∣ c
divides_other a b c coprime whole =
    subst (λ n. a ∣ n) (mul-one c) ((IsGcd-scaled c a b 1 coprime).2 a (dvd-mul_left a c) (subst (λ n. a ∣ n) (mul_comm b c) whole))

-- numbers divided by their greatest common divisor are coprime
pub coprime_parts : (x y g : ℕ) → 0 < g → IsGcd (x * g) (y * g) g → IsGcd x y 1
coprime_parts x y g some h = (
  one-dvd x,
  one-dvd y,
  λ d p q. dvd_of_mul-dvd-mul_right d some
      (subst (λ n. d * g ∣ n) (sym (one-mul g)) (h.2 (d * g) (mul-dvd-mul_right d p g) (mul-dvd-mul_right d q g))),
)

pub coprime_factors : (a b x y : ℕ) → IsGcd a b 1 → x ∣ a → y ∣ b → IsGcd x y 1
coprime_factors a b x y h first second =
    (one-dvd x, one-dvd y, λ d p q. h.2 d (dvd_trans d p first) (dvd_trans d q second))

pub coprime_product : (x y z : ℕ) → IsGcd x z 1 → IsGcd y z 1 → IsGcd (x * y) z 1
coprime_product x y z first second =
    (one-dvd (x * y), one-dvd z, λ d p q. second.2 d (divides_other d x y (IsGcd-swap x d 1 (coprime_factors x z x d first (dvd_refl x) q)) p) q)

-- two ratios in lowest terms with one value have one denominator
pub same_denominators : (a b c d : ℕ) → IsGcd a b 1 → IsGcd c d 1 → a * d ≡ c * b → b ≡ d
same_denominators a b c d first second same =
    dvd_antisymm (divides_other b a d (IsGcd-swap a b 1 first) (subst (λ n. b ∣ n) (sym same) (dvd-mul_left b c)))
    (divides_other d c b (IsGcd-swap c d 1 second) (subst (λ n. d ∣ n) same (dvd-mul_left d a)))

-- a greatest common divisor, and the numbers divided by it
pub record Cofactors (a b : ℕ) : Type 0 where
  pub divisor : ℕ
  pub first : ℕ
  pub second : ℕ
  pub greatest : IsGcd a b divisor
  pub first_whole : first * divisor ≡ a
  pub second_whole : second * divisor ≡ b

some_gcd : (n a b : ℕ) → b < n → (g : ℕ) × IsGcd a b g
some_gcd zero a b few = absurd (omega arith)
some_gcd (suc n) a zero few = (a, IsGcd-from_zero a 0 refl)
some_gcd (suc n) a (suc b) few =
    let less : a % suc b < suc b = mod-lt a (omega arith) in
    let found : (g : ℕ) × IsGcd (suc b) (a % suc b) g = some_gcd n (suc b) (a % suc b) (omega arith) in
    (found.0, IsGcd-from_mod a (suc b) found.0 found.1)

pub gcd-exists : (a b : ℕ) → Cofactors a b
gcd-exists a b =
    let found : (g : ℕ) × IsGcd a b g = some_gcd (suc b) a b (omega arith) in
    record {
      divisor = found.0;
      first = a / found.0;
      second = b / found.0;
      greatest = found.1;
      first_whole = div-mul_cancel found.0 found.1.0;
      second_whole = div-mul_cancel found.0 found.1.1;
    }
