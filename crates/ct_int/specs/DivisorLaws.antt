-- The laws of common divisors and common multiples.
--     GreatestCommonIsGcd    the greatest number that divides two is their greatest common divisor
--     IsLeastCommon m c l    both numbers divide l, and l divides every number that both divide
--     LeastCommonIsLeast     `least_common` is that number; of zero and any number it is zero
use Rattle.std.specs.Prelude.{ℕ, ◌<◌}
use Rattle.std.specs.Int.{◌∣◌, IsGcd}
use Rattle.ct_int.specs.Divisors.{greatest_common, least_common}

abbrev pub GreatestCommonIsGcd : Type 0
GreatestCommonIsGcd = (m c : ℕ) → 0 < c → IsGcd m c (greatest_common m c)

pub record IsLeastCommon (m c l : ℕ) : Type 0 where
  pub first_divides : m ∣ l
  pub second_divides : c ∣ l
  pub divides_others : (n : ℕ) → m ∣ n → c ∣ n → l ∣ n

abbrev pub LeastCommonIsLeast : Type 0
LeastCommonIsLeast = (m c : ℕ) → IsLeastCommon m c (least_common m c)
