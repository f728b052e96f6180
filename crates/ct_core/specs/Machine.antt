-- The claim machine as plain data.
--     Sight              what one worker knows
--     Machine            the count of indices, the two words, and what each worker knows
--     fresh, start_of    a worker that has done nothing; the machine with nothing claimed
-- `pending` stays after a hit. `seen` stays after a claim, and is of the pending index only where `looked` says so.
use Rattle.std.specs.Prelude.{ℕ, List, [], Bool, false, Option, None, replicate}

-- what one worker knows
pub record Sight : Type 0 where
  pub claims : List ℕ
  pub refuted : List ℕ
  pub hit : Option ℕ
  pub pending : Option ℕ
  pub looked : Bool
  pub seen : Option ℕ
  pub stopped : Bool

-- the count of indices, the two words, and what each worker knows
pub record Machine : Type 0 where
  pub count : ℕ
  pub next : ℕ
  pub least : Option ℕ
  pub views : List Sight

-- a worker that has done nothing
abbrev pub fresh : Sight
fresh = record { claims = []; refuted = []; hit = None; pending = None; looked = false; seen = None; stopped = false }

-- the machine with nothing claimed
abbrev pub start_of : ℕ → ℕ → Machine
start_of count workers = record { count = count; next = 0; least = None; views = replicate workers fresh }
