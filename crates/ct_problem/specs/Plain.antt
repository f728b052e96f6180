-- The bytes of a report in the first form: at most 2^26, spaces and printable ASCII but for `#` and `/`, in lines that each
-- end with a line feed, and no line of spaces alone.
--     line_after line b    where a line is after one more byte, if that byte may stand there
--     is_plain bytes       whether a text is like that
use Rattle.std.specs.Prelude.{ℕ, ◌==◌, ◌&&◌, ◌||◌, not, nat_le, Bool, true, false, if◌then◌else◌, List, [], ◌∷◌, length, Option, Some, None}
use Rattle.ct_problem.specs.declared.reading.plain.Line.{Line}
use Rattle.ct_problem.specs.declared.reading.plain.Line.TheVariants.{Ended, Blank, Written}
use Rattle.ct_problem.specs.Limits.{most_bytes}

-- a byte that may stand in a line, other than a space
abbrev pub is_written : ℕ → Bool
is_written b = nat_le 33 b && (nat_le b 126 && not (b == 35 || b == 47))

-- a line feed ends a line in which something is written
abbrev pub after_end : Line → Option Line
after_end Written = Some Ended
after_end _ = None

abbrev pub after_space : Line → Line
after_space Written = Written
after_space _ = Blank

unfoldable pub line_after : Line → ℕ → Option Line
line_after line b = if b == 10 then after_end line else (if b == 32 then Some (after_space line) else (if is_written b then Some Written else None))

abbrev pub is_ended : Line → Bool
is_ended Ended = true
is_ended _ = false

abbrev pub ends : Option Line → Bool
ends (Some line) = is_ended line
ends None = false

abbrev pub goes_on : Option Line → ℕ → Option Line
goes_on (Some line) b = line_after line b
goes_on None b = None

-- where the last line is, if every byte may stand where it does
unfoldable pub after_all : Option Line → List ℕ → Option Line
after_all line [] = line
after_all line (b ∷ bs) = after_all (goes_on line b) bs

unfoldable pub is_plain : List ℕ → Bool
is_plain bytes = nat_le (length bytes) most_bytes && ends (after_all (Some Ended) bytes)
