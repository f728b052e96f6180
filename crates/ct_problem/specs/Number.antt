-- Whole numbers as they are written.
--     value_of ds         the value of digits, cut at the first number past the greatest coefficient
--     coming_number       the value of the number that comes next, which stays
--     number limit kind   the rule of a number; past the limit it meets a fault of this kind
--     exactly n           the rule of a number of this value, whatever its zeros in front
use Rattle.std.specs.Prelude.{ℕ, ◌+◌, ◌-◌, ◌*◌, ◌==◌, min, fold, nat_lt, Bool, true, false, if◌then◌else◌, List, Option, Some}
use Rattle.ct_token.specs.declared.token.Symbol.{Symbol}
use Rattle.ct_token.specs.declared.token.Symbol.TheVariants.{Number}
use Rattle.ct_checked.specs.Limits.{largest_norm}
use Rattle.ct_problem.specs.declared.fault.BadKind.{BadKind}
use Rattle.ct_problem.specs.declared.fault.BadKind.TheVariants.{NumberTooLarge}
use Rattle.ct_problem.specs.Input.{Parser, ◌>>=◌, ◌>>◌, pure, fault, syntax, peek, skip, look, spelling}

abbrev pub value_of : List ℕ → ℕ
value_of digits = fold (λ n b. min (10 * n + (b - 48)) (largest_norm + 1)) 0 digits

abbrev pub coming_value : Parser ℕ
coming_value = look (λ i. value_of (spelling i))

abbrev pub digits_by : Option Symbol → Parser ℕ
digits_by (Some Number) = coming_value
digits_by _ = syntax

-- the value of the digits that come next, however large
unfoldable pub digits : Parser ℕ
digits = peek >>= digits_by

-- a fault at the next token where this is so
abbrev pub fault_if : Bool → BadKind → Parser (Unit {0})
fault_if true kind = fault kind
fault_if false kind = pure tt

unfoldable pub coming_number : Parser ℕ
coming_number = do
  n ← digits
  fault_if (nat_lt largest_norm n) NumberTooLarge
  pure n

unfoldable pub number : ℕ → BadKind → Parser ℕ
number limit kind = do
  n ← coming_number
  fault_if (nat_lt limit n) kind
  skip
  pure n

unfoldable pub exactly : ℕ → Parser (Unit {0})
exactly n = do
  m ← digits
  if m == n then skip else syntax
