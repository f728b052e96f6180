-- Greatest common divisors and least common multiples of whole numbers.
--     greatest_common m c   the greatest number that divides both, for c above 0
--     least_common m c      the least number that both divide
-- `greatest_common` is std's IsGcd, and `least_common` divides whatever both divide: laws `greatest_common_is_gcd` and
-- `least_common_is_least`.
use Rattle.std.specs.Prelude.{ℕ, zero, suc, ◌*◌, ◌/◌, ◌%◌, cond, eqb, ◌&&◌}

-- the greatest number up to k that divides both
abbrev pub common_up_to : ℕ → ℕ → ℕ → ℕ
common_up_to zero m c = 0
common_up_to (suc k) m c = cond (eqb (m % suc k) 0 && eqb (c % suc k) 0) (suc k) (common_up_to k m c)

-- no divisor of c is above c
unfoldable pub greatest_common : ℕ → ℕ → ℕ
greatest_common m c = common_up_to c m c

unfoldable pub least_common : ℕ → ℕ → ℕ
least_common m c = m / greatest_common m c * c
