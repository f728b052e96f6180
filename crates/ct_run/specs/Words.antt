-- The words of a run, and the command that they ask for. This project's own.
-- `read_words` and `run` cite `words_of`.
use Rattle.std.specs.Prelude.{ℕ, List, [], ◌∷◌, Option, Some, None, bytes_eq, codes, if◌then◌else◌}
use Rattle.ct_io.specs.declared.command.Command.{Command}
use Rattle.ct_io.specs.declared.command.Command.TheVariants.{Check, Reduce, Test}

abbrev pub command_of : List ℕ → Option Command
command_of word =
    if bytes_eq word (codes "check") then Some Check
    else (if bytes_eq word (codes "reduce") then Some Reduce else (if bytes_eq word (codes "test") then Some Test else None))

-- the command that the words ask for, none where they are refused: one word, `check`, `reduce` or `test`
abbrev pub words_of : List (List ℕ) → Option Command
words_of [] = None
words_of (word ∷ []) = command_of word
words_of (word ∷ next ∷ rest) = None
