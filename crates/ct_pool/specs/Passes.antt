-- What callers see of the words, the root and the passes, and what each call does to a pass.
--     PassView, RootView, ClaimsView   the meanings of `Pass`, `Root` and `Claims`
--     may_claim                        nothing is pending and it is not stopped, or the pending index may be refused
--     may_hit                          the pending index may be hit
--     Claimed, Looked                  a pass after the call, in the events of the claim machine, with its answer
--     IsGathered                       what all passes know together, and the two words
-- A table's identity names the words that a pass is of.
use Rattle.std.specs.Prelude.{◌≡◌, ℕ, zero, suc, ◌+◌, ◌≤◌, ◌<◌, List, [], ◌∷◌, ◌++◌, Bool, true, Option, Some, None, length, not, nat_lt, if◌then◌else◌, IfSome}
use Rattle.atomic_table.specs.Seated.{TableId}
use Rattle.ct_core.specs.Machine.{Sight, fresh}
use Rattle.ct_core.specs.Steps.{some_and, may_end}
use Rattle.ct_core.specs.Counting.{sum_over, times, once_below, Each}
use Rattle.ct_core.specs.CompleteList.{has_hit, has_ended, DecidedBy}
use Rattle.ct_pool.specs.Notes.{claims_at, looks_at, least_of}

-- a pass: its number, what it knows, and the words that it is of
pub record PassView : Type 0 where
  pub number : ℕ
  pub sight : Sight
  pub table : TableId

-- the two words: the count, and which they are
pub record ClaimsView : Type 0 where
  pub count : ℕ
  pub table : TableId

-- the root: the count, how many passes it made, and what those that are back know
pub record RootView : Type 0 where
  pub count : ℕ
  pub made : ℕ
  pub joined : List Sight
  pub table : TableId

-- the passes of an opening: fresh, and numbered from 0
abbrev pub passes_of : TableId → ℕ → List PassView
passes_of table zero = []
passes_of table (suc n) = passes_of table n ++ record { number = n; sight = fresh; table = table } ∷ []

-- a worker may claim: nothing is pending, or the pending index may be refused
abbrev pub may_claim : Sight → Option ℕ → Bool
may_claim v None = not v.stopped
may_claim v (Some i) = may_end v i

-- a worker may hit: its pending index may be hit
abbrev pub may_hit : Sight → Bool
may_hit v = some_and v.pending (λ i. may_end v i)

-- The pending index is refused, if there is one, and the number n that `next` had is claimed; the answer is n where
-- it is below the count. It is above what was pending.
abbrev pub Claimed : ℕ → Sight → Sight → Option ℕ → Type 0
Claimed count v w answer = (n : ℕ) × (w ≡ claims_at v n) × (answer ≡ (if nat_lt n count then Some n else None)) × IfSome v.pending (λ p. p < n)

-- what `least` had is seen, and answered
abbrev pub Looked : Sight → Sight → Option ℕ → Type 0
Looked v w answer = (n : ℕ) × (w ≡ looks_at v n) × (answer ≡ least_of n)

-- the least hit of the views, or none where no view has one
abbrev pub IsLeastHit : List Sight → Option ℕ → Type 0
IsLeastHit views None = Each (λ v. v.hit ≡ None) views
IsLeastHit views (Some m) = (1 ≤ sum_over (has_hit m) views) × Each (λ v. IfSome v.hit (λ h. m ≤ h)) views

-- what all passes know together
pub record IsGathered (count next : ℕ) (least : Option ℕ) (views : List Sight) : Type 0 where
  -- each number below `next` stands once in the claims of one pass, and no other number stands there
  pub claims : (x : ℕ) → sum_over (λ v. times x v.claims) views ≡ once_below x next
  -- at most one claim of each pass is at or past the count
  pub most : next ≤ count + length views
  pub least_hit : IsLeastHit views least
  -- once every pass has ended, each number below the least hit is refuted once, or each below the count
  pub decided : 0 < length views → Each (λ v. has_ended count v ≡ true) views → DecidedBy count views least
