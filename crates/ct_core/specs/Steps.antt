-- What an event may do, and does. The table of the machine, for an event of worker w:
--     Claim      not stopped, nothing pending          `next` is pending and claimed; `next` rises; not looked
--     Look       pending below the count, not looked   `seen` is `least`; looked
--     Refuse i   `may_end`                             i is refuted; nothing pending
--     Hit i      `may_end`                             `least` is the smaller of itself and i; hit; stopped
--     Stop       `may_stop`                            stopped
-- What an effect does not name stays. An event of a worker that has no view is not legal.
--     is_legal count view event         whether it may come
--     view_after, next_after, least_after   its effect on the view and on the two words
--     step_of machine event             the machine after it, or none where it is not legal
use Rattle.std.specs.Prelude.{◌≡◌, ℕ, ◌+◌, min, [], ◌∷◌, ◌++◌, Bool, true, false, not, ◌&&◌, ◌||◌, ◌==◌, nat_lt, nat_le, Option, Some, None, slice_get, slice_set, if◌then◌else◌}
use Rattle.ct_core.specs.Machine.{Sight, Machine}
use Rattle.ct_core.specs.declared.event.Event.{Event}
use Rattle.ct_core.specs.declared.event.Event.TheVariants.{Claim, Look, Refuse, Hit, Stop}
use Rattle.ct_core.specs.declared.state.CoreFault.{CoreFault}
use Rattle.ct_core.specs.declared.state.CoreFault.TheVariants.{Illegal, NoMemory}

-- there is a number, and it passes the test
abbrev pub some_and : Option ℕ → (ℕ → Bool) → Bool
some_and None p = false
some_and (Some x) p = p x

-- there is no number, or it passes the test
abbrev pub none_or : Option ℕ → (ℕ → Bool) → Bool
none_or None p = true
none_or (Some x) p = p x

-- the pending index may be refused or hit: it was looked at, and no smaller hit was seen
abbrev pub may_end : Sight → ℕ → Bool
may_end v i = not v.stopped && (some_and v.pending (λ p. p == i) && (v.looked && none_or v.seen (λ s. nat_le i s)))

-- the claims are used up, or a smaller hit was seen
abbrev pub may_stop : ℕ → Sight → Bool
may_stop count v = some_and v.pending (λ p. nat_le count p) || (v.looked && some_and v.pending (λ p. some_and v.seen (λ s. nat_lt s p)))

abbrev pub is_legal : ℕ → Sight → Event → Bool
is_legal count v (Claim w) = not v.stopped && none_or v.pending (λ _. false)
is_legal count v (Look w) = some_and v.pending (λ p. nat_lt p count) && not v.looked
is_legal count v (Refuse w i) = may_end v i
is_legal count v (Hit w i) = may_end v i
is_legal count v (Stop w) = may_stop count v

-- the smaller one, where none is greatest
abbrev pub least_with : Option ℕ → ℕ → Option ℕ
least_with None i = Some i
least_with (Some m) i = Some (min m i)

abbrev pub view_after : ℕ → Option ℕ → Sight → Event → Sight
view_after next least v (Claim w) = record v { claims = v.claims ++ next ∷ []; pending = Some next; looked = false }
view_after next least v (Look w) = record v { looked = true; seen = least }
view_after next least v (Refuse w i) = record v { refuted = v.refuted ++ i ∷ []; pending = None }
view_after next least v (Hit w i) = record v { hit = Some i; stopped = true }
view_after next least v (Stop w) = record v { stopped = true }

abbrev pub next_after : ℕ → Event → ℕ
next_after next (Claim w) = next + 1
next_after next (Look w) = next
next_after next (Refuse w i) = next
next_after next (Hit w i) = next
next_after next (Stop w) = next

abbrev pub least_after : Option ℕ → Event → Option ℕ
least_after least (Claim w) = least
least_after least (Look w) = least
least_after least (Refuse w i) = least
least_after least (Hit w i) = least_with least i
least_after least (Stop w) = least

abbrev pub worker_of : Event → ℕ
worker_of (Claim w) = w
worker_of (Look w) = w
worker_of (Refuse w i) = w
worker_of (Hit w i) = w
worker_of (Stop w) = w

abbrev pub machine_after : Machine → ℕ → Sight → Event → Machine
machine_after s w v e = record { count = s.count; next = next_after s.next e; least = least_after s.least e; views = slice_set s.views w (view_after s.next s.least v e) }

-- the event at this view, if it is legal
abbrev pub step_at : Machine → Option Sight → Event → Option Machine
step_at s None e = None
step_at s (Some v) e = if is_legal s.count v e then Some (machine_after s (worker_of e) v e) else None

abbrev pub step_of : Machine → Event → Option Machine
step_of s e = step_at s (slice_get s.views (worker_of e)) e

-- Illegal comes where the event is not legal. Out of memory says nothing.
abbrev pub Refused : Machine → Event → CoreFault → Type 0
Refused s e (Illegal k) = (k ≡ 0) × (step_of s e ≡ None)
Refused s e NoMemory = Unit {0}
