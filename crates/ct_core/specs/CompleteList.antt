-- What a complete list of events has decided.
--     IsComplete            every worker is stopped
--     IsFaithful f events   each refused index is a miss of f, and each hit one a hit
--     Decided               what the views have refuted and hit, once all workers ended
--     IsFirstHit f count    the first hit of f below the count
--     decision_of f count   what one worker decides who tries the indices in order
-- At a count of 0 nothing is refuted and nothing is decided.
-- `replay` cites the first four, `ct_pool::Claims::gather` `has_ended` and `DecidedBy`, and the laws the last.
use Rattle.std.specs.Prelude.{◌≡◌, ℕ, zero, suc, ◌+◌, ◌<◌, List, [], ◌∷◌, Bool, true, false, ◌==◌, ◌||◌, nat_le, nat_lt, Option, Some, None, is_some, if◌then◌else◌}
use Rattle.ct_core.specs.declared.event.Event.{Event}
use Rattle.ct_core.specs.declared.event.Event.TheVariants.{Claim, Look, Refuse, Hit, Stop}
use Rattle.ct_core.specs.Machine.{Sight, Machine, start_of}
use Rattle.ct_core.specs.Steps.{some_and}
use Rattle.ct_core.specs.Runs.{run_of}
use Rattle.ct_core.specs.Counting.{sum_over, one_if, times, once_below, Each}

-- 1 where the worker hit m
abbrev pub has_hit : ℕ → Sight → ℕ
has_hit m v = one_if (some_and v.hit (λ h. h == m))

-- the worker has a hit, or its pending index is at or past the count, or it saw a smaller hit
abbrev pub has_ended : ℕ → Sight → Bool
has_ended count v = is_some v.hit || (some_and v.pending (λ p. nat_le count p) || some_and v.pending (λ p. some_and v.seen (λ s. nat_lt s p)))

-- Without a hit the numbers below the count are refuted, each once, and no others.
-- With a least hit, it is one worker's, and each smaller number is refuted once.
abbrev pub DecidedBy : ℕ → List Sight → Option ℕ → Type 0
DecidedBy count views None = (x : ℕ) → sum_over (λ v. times x v.refuted) views ≡ once_below x count
DecidedBy count views (Some m) = (m < count) × (sum_over (has_hit m) views ≡ 1) × ((x : ℕ) → x < m → sum_over (λ v. times x v.refuted) views ≡ 1)

-- every worker is stopped
abbrev pub IsComplete : Machine → Type 0
IsComplete s = Each (λ v. v.stopped ≡ true) s.views

abbrev pub Decided : Machine → Type 0
Decided s = DecidedBy s.count s.views s.least

-- the event refuses only a miss of f, and hits only a hit
abbrev pub Agrees : (ℕ → Bool) → Event → Type 0
Agrees f (Claim w) = Unit {0}
Agrees f (Look w) = Unit {0}
Agrees f (Refuse w i) = f i ≡ false
Agrees f (Hit w i) = f i ≡ true
Agrees f (Stop w) = Unit {0}

-- the list is faithful to f
abbrev pub IsFaithful : (ℕ → Bool) → List Event → Type 0
IsFaithful f es = Each (Agrees f) es

-- the first hit of f below the count, or none where there is none
abbrev pub IsFirstHit : (ℕ → Bool) → ℕ → Option ℕ → Type 0
IsFirstHit f count None = (x : ℕ) → x < count → f x ≡ false
IsFirstHit f count (Some m) = (m < count) × (f m ≡ true) × ((x : ℕ) → x < m → f x ≡ false)

-- the first hit among `more` numbers, tried in order from this one on
abbrev pub first_from : (ℕ → Bool) → ℕ → ℕ → Option ℕ
first_from f zero from = None
first_from f (suc more) from = if f from then Some from else first_from f more (from + 1)

-- what one worker decides who tries the numbers below the count in order
abbrev pub decision_of : (ℕ → Bool) → ℕ → Option ℕ
decision_of f count = first_from f count 0

-- the events of one worker that tries `more` numbers, in order from this one on
abbrev pub events_from : (ℕ → Bool) → ℕ → ℕ → List Event
events_from f zero from = Claim 0 ∷ Stop 0 ∷ []
events_from f (suc more) from = Claim 0 ∷ Look 0 ∷ (if f from then Hit 0 from ∷ [] else Refuse 0 from ∷ events_from f more (from + 1))

-- every complete and faithful list, of any number of workers, decides as one worker does
abbrev pub EveryScheduleDecidesAlike : Type 0
EveryScheduleDecidesAlike = (f : ℕ → Bool) (count workers : ℕ) (events : List Event) (s : Machine) → 0 < workers → run_of (start_of count workers) events ≡ Some s → IsFaithful f events → IsComplete s → s.least ≡ decision_of f count

-- the events of that one worker are such a list
abbrev pub OneWorkerDecides : Type 0
OneWorkerDecides = (f : ℕ → Bool) (count : ℕ) → (s : Machine) × (run_of (start_of count 1) (events_from f count 0) ≡ Some s) × IsFaithful f (events_from f count 0) × IsComplete s × (s.least ≡ decision_of f count)
