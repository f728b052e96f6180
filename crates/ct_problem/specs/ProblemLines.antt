-- The lines of a problem behind its names and `let` lines, each kind in its turn:
--     gen EXPR           at most 16 times
--     use NAME           in place of `gen` lines, at most once
--     den NAME: EXPR     at most once for each summed name
--     target EXPR        at most 16 times
--     order A..B         at most once, A and B at most 8
--     degree C..D        at most once, C and D at most 12
--     end
--     generators names   the rule of the `gen` lines or the `use` line
--     range_line key limit    the rule of the line of a range, if it is there
use Rattle.std.specs.Prelude.{ℕ, nat_lt, if◌then◌else◌, List, [], ◌∷◌, Option, Some, None, codes}
use Rattle.ct_expr.specs.declared.expr.Expr.{Expr}
use Rattle.ct_problem.specs.declared.fault.BadKind.TheVariants.{OutOfRange, EmptyRange}
use Rattle.ct_problem.specs.declared.problem.Gens.{Gens}
use Rattle.ct_problem.specs.declared.problem.Gens.TheVariants.{Listed, Named}
use Rattle.ct_problem.specs.declared.problem.Range.{Range}
use Rattle.ct_problem.specs.Input.{Parser, ◌>>=◌, ◌>>◌, pure, skip, eat_word, line_end, dots}
use Rattle.ct_problem.specs.LetLines.{list_name}
use Rattle.ct_problem.specs.Lines.{no_more, value_lines}
use Rattle.ct_problem.specs.Names.{Names}
use Rattle.ct_problem.specs.Number.{coming_number, number, fault_if}

module _ (names : Names) where
  -- a `use` line behind its first word
  unfoldable pub used : Parser Gens
  used = do
    at ← list_name names
    line_end
    no_more (codes "use")
    pure (Named at)

  abbrev pub listed_or_used : List Expr → Parser Gens
  listed_or_used [] = do
    is_used ← eat_word (codes "use")
    if is_used then used else pure (Listed [])
  listed_or_used (x ∷ xs) = pure (Listed (x ∷ xs))

  unfoldable pub generators : Parser Gens
  generators = value_lines names (codes "gen") >>= listed_or_used

-- ---- ranges

-- the second number of a range
unfoldable pub high_number : ℕ → ℕ → Parser ℕ
high_number limit low = do
  n ← coming_number
  fault_if (nat_lt limit n) OutOfRange
  fault_if (nat_lt n low) EmptyRange
  skip
  pure n

unfoldable pub range : ℕ → Parser Range
range limit = do
  low ← number limit OutOfRange
  dots
  high ← high_number limit low
  pure (record { low = low; high = high })

unfoldable pub range_line : List ℕ → ℕ → Parser (Option Range)
range_line key limit = do
  is_there ← eat_word key
  if is_there then (do r ← range limit; line_end; no_more key; pure (Some r)) else pure None
