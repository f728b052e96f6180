-- What the seats know, and the views of all workers in one list.
--     root_note, live_note, spent_note   the root's seat; a worker's seat; the seat of a worker that is back
--     flat notes                         what all workers know, wherever it is kept
--     word_of, least_of                  `least` as a word, with 2^64-1 for none, and back
--     claims_at, looks_at, hits_at       what a worker knows after its step, by the claim machine's events
-- A worker's step is the machine's event with the word that it found. Here the event's worker number plays no part.
use Rattle.std.specs.Prelude.{ℕ, List, [], ◌∷◌, ◌++◌, true, false, ◌==◌, Option, Some, None, if◌then◌else◌}
use Rattle.ct_core.specs.Machine.{Sight, fresh}
use Rattle.ct_core.specs.Steps.{view_after}
use Rattle.ct_core.specs.declared.event.Event.TheVariants.{Claim, Look, Refuse, Hit}
use Rattle.ct_pool.specs.declared.note.Note.{Note}

-- the root's seat: how many workers it made, and what those that came back know
abbrev pub root_note : ℕ → ℕ → List Sight → Note
root_note count made joined = record { count = count; made = made; joined = joined; live = false; sight = fresh }

-- a worker's seat
abbrev pub live_note : Sight → Note
live_note v = record { count = 0; made = 0; joined = []; live = true; sight = v }

-- the seat of a worker that came back
abbrev pub spent_note : Note
spent_note = record { count = 0; made = 0; joined = []; live = false; sight = fresh }

-- the workers whose knowledge is kept at one seat
abbrev pub sights_of : Note → List Sight
sights_of n = n.joined ++ (if n.live then n.sight ∷ [] else [])

-- what all workers know, wherever it is kept
abbrev pub flat : List Note → List Sight
flat [] = []
flat (n ∷ ns) = sights_of n ++ flat ns

-- `least` as a word
abbrev pub word_of : Option ℕ → ℕ
word_of None = 18446744073709551615
word_of (Some m) = m

-- the word as `least`
abbrev pub least_of : ℕ → Option ℕ
least_of word = if word == 18446744073709551615 then None else Some word

-- the pending index, if there is one, is refused
abbrev pub refused_at : Sight → Option ℕ → Sight
refused_at v None = v
refused_at v (Some i) = view_after 0 None v (Refuse 0 i)

-- the pending index is refused, and the number n is claimed
abbrev pub claims_at : Sight → ℕ → Sight
claims_at v n = view_after n None (refused_at v v.pending) (Claim 0)

-- the word is seen
abbrev pub looks_at : Sight → ℕ → Sight
looks_at v n = view_after 0 (least_of n) v (Look 0)

-- the index is hit
abbrev pub hits_at : Sight → ℕ → Sight
hits_at v i = view_after 0 None v (Hit 0 i)
