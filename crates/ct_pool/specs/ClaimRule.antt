-- The rule over the two words and all seats, which every step keeps whatever the others do.
--     IsRuled count state    the rule
--     TakeTold, LookTold, HitMade, NextTold, LeastTold   what each kind of step tells its caller
-- Word 0 is the machine's `next`, word 1 its `least`, and the views of all seats in one list are what the claim
-- machine keeps (`Kept` of ct_core): each number below `next` is claimed once; a claim is refuted, hit or pending;
-- refuted and hit numbers are below the count; `least` is a hit, and no hit is below it; what was seen is at least
-- `least`. The root stands at place 0. There are at most 16 workers, so `next` is at most the count plus 16.
use Rattle.std.specs.Prelude.{◌≡◌, ℕ, ◌≤◌, ◌<◌, List, [], ◌∷◌, Option, length, IfSome}
use mathlib.Core.Option.{some}
use lib.ListN.{get_elem?}
use Rattle.atomic_table.specs.Table.{State, Step, Me}
use Rattle.ct_core.specs.Machine.{Sight}
use Rattle.ct_core.specs.Kept.{Kept}
use Rattle.ct_pool.specs.declared.note.Note.{Note}
use Rattle.ct_pool.specs.Notes.{root_note, live_note, flat, word_of, least_of, claims_at, looks_at, hits_at}

-- the rule
pub record IsRuled {S : Type 0} (count : ℕ) (s : State S Note) : Type 0 where
  pub next : ℕ
  pub least : Option ℕ
  pub made : ℕ
  pub joined : List Sight
  pub words : s.words ≡ next ∷ word_of least ∷ []
  pub kept : Kept count next least (flat s.views)
  pub root : get_elem? s.views 0 ≡ some (root_note count made joined)
  pub size : length (flat s.views) ≡ made
  pub most : made ≤ 16
  pub small : count ≤ 65535

-- the number found is claimed, and it is above what was pending
abbrev pub TakeTold : {S : Type 0} → Step S → Me S Note → ℕ → Me S Note → Type 0
TakeTold s me n w = (w ≡ (live_note (claims_at me.0.sight n), me.1)) × IfSome me.0.sight.pending (λ p. p < n)

-- the word found is seen
abbrev pub LookTold : {S : Type 0} → Step S → Me S Note → ℕ → Me S Note → Type 0
LookTold s me n w = w ≡ (live_note (looks_at me.0.sight n), me.1)

-- the index of the step is hit
abbrev pub HitMade : {S : Type 0} → Step S → Me S Note → ℕ → Me S Note → Type 0
HitMade s me n w = w ≡ (live_note (hits_at me.0.sight s.first), me.1)

-- all workers that the root made are back
abbrev pub AllBack : Note → Type 0
AllBack v = v.made ≡ length v.joined

-- once all are back, the word found is `next` beside what they know
abbrev pub NextTold : {S : Type 0} → Step S → Me S Note → ℕ → Me S Note → Type 0
NextTold s me n w = (w ≡ me) × (AllBack me.0 → (least : Option ℕ) × Kept me.0.count n least me.0.joined)

-- once all are back, the word found is `least` beside what they know
abbrev pub LeastTold : {S : Type 0} → Step S → Me S Note → ℕ → Me S Note → Type 0
LeastTold s me n w = (w ≡ me) × (AllBack me.0 → (next : ℕ) × Kept me.0.count next (least_of n) me.0.joined)
