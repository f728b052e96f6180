-- The limits of problems and of reports.
use Rattle.std.specs.Prelude.{ℕ}

-- bytes of a text
abbrev pub most_bytes : ℕ
most_bytes = 67108864

abbrev pub most_names : ℕ
most_names = 6

-- bytes of a name
abbrev pub longest_name : ℕ
longest_name = 32

-- `let` lines
abbrev pub most_lets : ℕ
most_lets = 8

-- expressions of a `let` line, `gen` lines, and `target` lines
abbrev pub most_listed : ℕ
most_listed = 16

-- parentheses that are open at once
abbrev pub most_open : ℕ
most_open = 64

-- what an `order` line may say
abbrev pub highest_order : ℕ
highest_order = 8

-- what a `degree` line may say
abbrev pub highest_degree : ℕ
highest_degree = 12

-- the numbers of a report's `found` line
abbrev pub largest_index : ℕ
largest_index = 65535
