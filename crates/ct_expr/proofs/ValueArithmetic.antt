-- Values in code: what their steps ask. Main lemmas `clears` (a least common multiple within the limit can be cleared to),
-- `divisor_fits` (a common divisor can be divided by) and `lowest_one` (nothing has to be done over 1).
use Rattle.ct_expr.proofs.Base.{◌≡◌, ℕ, ◌*◌, ◌/◌, ◌<◌, ◌≤◌, Ok, sym, ◌∙◌, ap, subst, arith, mul-pos, div-mul_cancel, pos_of_ne-zero}
use Rattle.ct_expr.proofs.Base.{le-mul_of_pos_right, eq-one_of_dvd-one, Operator, least_common, largest_norm, checked_whole, whole_ok}
use Rattle.ct_expr.proofs.Base.{DividesOperator, common_divisor, over_whole}
use Rattle.std.specs.Int.{◌∣◌}
use Rattle.std.proofs.lemmas.Nat.Gcd.{dvd_refl, le_of_dvd}
use Rattle.ct_int.proofs.CommonMultiples.{LeastCommon, least_common_is}
use Rattle.ct_ore.proofs.WholeDivisors.{common_is, divisor_some}
use Rattle.ct_expr.specs.ValueArithmetic.{Value, over_one, lowest}
use Rattle.ct_ore.proofs.WholeDivisors as divisors

-- a positive number within the limit
pub record IsFactor (n : ℕ) : Type 0 where
  pub some : 0 < n
  pub within : n ≤ largest_norm

-- the quotient of such a number
pub quotient_fits : (m n : ℕ) → IsFactor m → 0 < n → n ∣ m → IsFactor (m / n)
quotient_fits m n is some divides =
    let whole : m / n * n ≡ m = div-mul_cancel n divides in
    let positive = pos_of_ne-zero (λ none. let gone : 0 * n ≡ 0 = omega arith in let zero_m : m ≡ 0 = sym whole ∙ ap (λ k. k * n) none ∙ gone in
    omega (arith, zero_m, is.some)) in
    let low : m / n ≤ m / n * n = le-mul_of_pos_right (m / n) some in
    record { some = positive; within = omega (arith, low, whole, is.within) }

pub record Clears (a b m : ℕ) : Type 0 where
  pub itself : IsFactor m
  pub first : IsFactor (m / a)
  pub second : IsFactor (m / b)
  pub first_divides : a ∣ m
  pub second_divides : b ∣ m

pub clears : (a b m : ℕ) → 0 < a → 0 < b → checked_whole (least_common a b) ≡ Ok m → Clears a b m
clears a b m some other answer =
    let kept = whole_ok (least_common a b) m answer in
    let least = subst (LeastCommon a b) kept.same (least_common_is a b some other) in
    let itself : IsFactor m = record { some = least.positive; within = kept.low } in
    record {
      itself = itself;
      first = quotient_fits m a itself some least.first;
      second = quotient_fits m b itself other least.second;
      first_divides = least.first;
      second_divides = least.second;
    }

pub product_fits : (a b m : ℕ) → 0 < a → 0 < b → checked_whole (a * b) ≡ Ok m → IsFactor m
product_fits a b m some other answer =
    let kept = whole_ok (a * b) m answer in
    let positive : 0 < a * b = mul-pos some other in
    record { some = omega (arith, positive, kept.same); within = kept.low }

-- ---- lowest terms

pub record Divides (x : Operator) (n d : ℕ) : Type 0 where
  pub some : 0 < d
  pub within : d ≤ n
  pub number : d ∣ n
  pub operator : DividesOperator d x

pub divisor_fits : (x : Operator) (n : ℕ) → 0 < n → Divides x n (common_divisor x n)
divisor_fits x n some =
    let both = (common_is x n some (common_divisor x n)).0 (dvd_refl (common_divisor x n)) in
    record { some = divisor_some n (common_divisor x n) some both.0; within = le_of_dvd some both.0; number = both.0; operator = both.1 }

pub lowest_one : (x : Operator) → lowest x 1 ≡ over_one x
unfolding lowest
lowest_one x =
    let fits = divisor_fits x 1 (omega arith) in
    let one : common_divisor x 1 ≡ 1 = eq-one_of_dvd-one fits.number in
    ap (λ d. let v : Value = record { operator = over_whole d x; whole = 1 / d } in v) one ∙ ap over_one (divisors.over_one x)
