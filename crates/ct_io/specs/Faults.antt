-- Counts of faults, and when a call may say that it failed. This project's own.
--     largest_count       where a count of faults or of calls stays
--     next_count n        the count after one more
--     Rose before now     a fault was counted since
--     IsCounted before now result   the call fails only where a fault was counted, and else counts none
--     Tells failed before now       the same of an answer that can say so in another way
-- A count that stands at `largest_count` counts as risen, since one more fault could not be told from none.
-- The contracts of `Source`, `Sink` and all that reads or writes through them cite it.
use Rattle.std.specs.Prelude.{◌≡◌, ℕ, ◌+◌, ◌-◌, ◌^◌, ◌≤◌, min, OnErr, OnOk, Result}

-- where a count stays
abbrev pub largest_count : ℕ
largest_count = 2 ^ 64 - 1

-- the count after one more
abbrev pub next_count : ℕ → ℕ
next_count count = min (count + 1) largest_count

-- a fault was counted since
abbrev pub Rose : ℕ → ℕ → Type 0
Rose before now = next_count before ≤ now

-- the call fails only where a fault was counted, and counts none where it does not fail
pub record IsCounted {T E : Type 0} (before now : ℕ) (result : Result T E) : Type 0 where
  pub later : before ≤ now
  pub unchanged : OnOk result (now ≡ before)
  pub failed : OnErr result (Rose before now)

-- a failure is reported only where a fault was counted, and none was counted where none is reported
pub record Tells (failed : Type 0) (before now : ℕ) : Type 0 where
  pub later : before ≤ now
  pub rose : failed → Rose before now
  pub unchanged : ¬ failed → now ≡ before
