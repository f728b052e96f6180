-- The least common multiple of two numbers. Main lemmas: `least_common_least`, which the law `least_common_is_least` cites, and
-- `least_common_is`, that of positive numbers is positive, for the crates above.
-- With m = x·g, c = y·g and g the greatest common divisor it is x·c; where m divides k·c, x divides k, since x and y are coprime.
use Rattle.ct_int.proofs.Base.{◌≡◌, ℕ, zero, suc, ◌*◌, ◌/◌, ◌<◌, sym, ◌∙◌, ap, subst, arith, ◌∣◌, IsGcd, dvd-zero, div-mul_cancel, dvd-mul_left}
use Rattle.ct_int.proofs.Base.{dvd-mul_right, dvd_of_mul-dvd-mul_right, mul-dvd-mul_right, mul_assoc, mul_comm, mul-pos, mul-zero, pos_of_dvd_of_pos}
use Rattle.ct_int.specs.DivisorLaws.{IsLeastCommon}
use Rattle.ct_int.specs.Divisors.{greatest_common, least_common}
use Rattle.ct_int.proofs.CommonDivisors.{greatest_common_is, divisor_positive}
use Rattle.ct_int.proofs.GcdLaws.{coprime_parts, divides_other}

-- the parts of both over their greatest common divisor
module _ (m c : ℕ) (some : 0 < c) where
  abbrev g : ℕ
  g = greatest_common m c

  is : IsGcd m c g
  is = greatest_common_is m c some

  positive_divisor : 0 < g
  positive_divisor = divisor_positive m c g some is

  first_is : m / g * g ≡ m
  first_is = div-mul_cancel g is.0

  second_is : c / g * g ≡ c
  second_is = div-mul_cancel g is.1

  coprime : IsGcd (m / g) (c / g) 1
  coprime =
      coprime_parts (m / g) (c / g) g positive_divisor
      (subst (λ k. IsGcd k (c / g * g) g) (sym first_is) (subst (λ k. IsGcd m k g) (sym second_is) is))

  -- y·k·g is k·c
  spread : (k : ℕ) → k * c ≡ c / g * k * g
  spread k =
      ap (λ n. k * n) (sym second_is) ∙ sym (mul_assoc k (c / g) g) ∙ ap (λ n. n * g) (mul_comm k (c / g))

  first_divides : m ∣ m / g * c
  first_divides =
      subst (λ n. m ∣ n) (ap (λ n. c / g * n) (sym first_is) ∙ sym (mul_assoc (c / g) (m / g) g) ∙ sym (spread (m / g)))
      (dvd-mul_left m (c / g))

  divides_others : (n : ℕ) → m ∣ n → c ∣ n → m / g * c ∣ n
  divides_others n first second =
      let k = n / c in
      let whole : k * c ≡ n = div-mul_cancel c second in
      let both : m / g * g ∣ c / g * k * g =
      subst (λ a. a ∣ c / g * k * g) (sym first_is) (subst (λ n. m ∣ n) (sym whole ∙ spread k) first) in
      let part : m / g ∣ k = divides_other (m / g) (c / g) k coprime (dvd_of_mul-dvd-mul_right (m / g) positive_divisor both) in
      subst (λ n. m / g * c ∣ n) whole (mul-dvd-mul_right (m / g) part c)

pub least_common_least : (m c : ℕ) → IsLeastCommon m c (least_common m c)
unfolding least_common
least_common_least m zero =
    let none = mul-zero (m / greatest_common m zero) in record {
      first_divides = subst (λ l. m ∣ l) (sym none) (dvd-zero m);
      second_divides = subst (λ l. zero ∣ l) (sym none) (dvd-zero zero);
      divides_others = λ n first second. subst (λ l. l ∣ n) (sym none) second;
    }
least_common_least m (suc c) = record {
  first_divides = first_divides m (suc c) (omega arith);
  second_divides = dvd-mul_left (suc c) (m / greatest_common m (suc c));
  divides_others = divides_others m (suc c) (omega arith);
}

pub record LeastCommon (a b m : ℕ) : Type 0 where
  pub first : a ∣ m
  pub second : b ∣ m
  pub positive : 0 < m

pub least_common_is : (a b : ℕ) → 0 < a → 0 < b → LeastCommon a b (least_common a b)
least_common_is a b some other =
    let least = least_common_least a b in record {
      first = least.first_divides;
      second = least.second_divides;
      positive = pos_of_dvd_of_pos (least.divides_others (a * b) (dvd-mul_right a b) (dvd-mul_left b a)) (mul-pos some other);
    }
