-- The arithmetic of values: operators over positive whole numbers, in lowest terms, with exact overflow (this project's own
-- rules).
--     Value                 an operator over a whole number
--     IsValue v             the whole number is from 1 to the greatest coefficient
--     IsLowest v            no number but 1 divides the whole number and every coefficient of the operator
--     over_one x            an operator by itself
--     lowest x n            x over n, both divided by their greatest common divisor
--     negated v             0 minus v
--     cleared a v w         the operators of both over the least common multiple of the whole numbers, v first
--     checked_plus a v w, checked_minus a v w    both cleared, and then the sum, the difference
--     checked_times a v w   the product of the operators, and then that of the whole numbers
-- What they mean is said by the laws of `ValueLaws`.
use Rattle.std.specs.Prelude.{◌≡◌, refl, ℕ, ◌*◌, ◌/◌, ◌<◌, ◌≤◌, Ok}
use Rattle.std.specs.Int.{◌∣◌}
use Rattle.std.specs.Coded.{Coded, code_by, coded×, coded_ℕ}
use Rattle.ct_algebra.specs.Names.{Name}
use Rattle.ct_algebra.specs.Actions.{Action}
use Rattle.ct_algebra.specs.Operators.{Operator, operator_code, no_operator}
use Rattle.ct_int.specs.Divisors.{least_common}
use Rattle.ct_checked.specs.Limits.{largest_norm}
use Rattle.ct_checked.specs.Checked.{Checked, ◌>>=◌}
use Rattle.ct_poly.specs.Wholes.{checked_whole}
use Rattle.ct_ore.specs.Measures.{checked_sum, checked_difference, checked_product}
use Rattle.ct_ore.specs.Wholes.{DividesOperator, common_divisor, over_whole, checked_multiple}
use Rattle.ct_expr.specs.declared.value.Cleared.{Cleared}

pub record Value : Type 0 where
  pub operator : Operator
  pub whole : ℕ

abbrev pub value_code : Coded Value
value_code =
    code_by (Operator × ℕ) (coded× operator_code coded_ℕ) (λ v. (v.operator, v.whole))
    (λ p. record { operator = p.0; whole = p.1 }) (λ _. refl)

pub record IsValue (v : Value) : Type 0 where
  pub positive : 0 < v.whole
  pub within : v.whole ≤ largest_norm

abbrev pub IsLowest : Value → Type 0
IsLowest v = (d : ℕ) → d ∣ v.whole → DividesOperator d v.operator → d ≡ 1

abbrev pub over_one : Operator → Value
over_one x = record { operator = x; whole = 1 }

unfoldable pub lowest : Operator → ℕ → Value
lowest x n = record { operator = over_whole (common_divisor x n) x; whole = n / common_divisor x n }

unfoldable pub negated : Value → Checked Value
negated v = do
  x ← checked_difference no_operator v.operator
  Ok (record { operator = x; whole = v.whole })

module _ (a : Name → Action) where
  -- both over the least common multiple
  unfoldable pub cleared : Value → Value → Checked Cleared
  cleared v w = do
    whole ← checked_whole (least_common v.whole w.whole)
    mine ← checked_multiple a (whole / v.whole) v.operator
    its ← checked_multiple a (whole / w.whole) w.operator
    Ok (record { whole = whole; mine = mine; its = its })

  unfoldable pub checked_plus : Value → Value → Checked Value
  checked_plus v w = do
    c ← cleared v w
    sum ← checked_sum c.mine c.its
    Ok (lowest sum c.whole)

  unfoldable pub checked_minus : Value → Value → Checked Value
  checked_minus v w = do
    c ← cleared v w
    difference ← checked_difference c.mine c.its
    Ok (lowest difference c.whole)

  unfoldable pub checked_times : Value → Value → Checked Value
  checked_times v w = do
    product ← checked_product a v.operator w.operator
    whole ← checked_whole (v.whole * w.whole)
    Ok (lowest product whole)
