-- How far a source was read. This project's own.
--     TakesAtMost most before now   of the bytes that were left before, at most `most` are gone, from the beginning
-- A source that tells no bytes says nothing of it. `read_up_to` cites it for every answer, a failure too: a read
-- that fails takes nothing, and the reads before it may have taken some.
use Rattle.std.specs.Prelude.{ℕ, ◌≤◌, List, length, Option}
use Rattle.std.specs.Io.KnownBytes.{Consumes}

-- at most `most` bytes were taken, and they were the first
abbrev pub TakesAtMost : ℕ → Option (List ℕ) → Option (List ℕ) → Type 0
TakesAtMost most before now = (taken : List ℕ) × (length taken ≤ most) × Consumes before now taken
