-- What one worker decides who tries the indices in order, and that every complete and faithful list decides the same.
-- Main lemmas: `decides_alike` and `lone_decides`, at the end, which the two laws cite.
-- The first hit is unique (`first_from-is`). The lone worker's events are run one by one, from any index on.
use Rattle.std.proofs.Common.{◌≡◌, ◌⊎◌, ⊎_elim, ℕ, zero, suc, ◌+◌, ◌<◌, ◌≤◌, List, [], ◌∷◌, ◌++◌, Some, None, Option, Bool, true, false, refl, ap}
use Rattle.std.proofs.Common.{◌∙◌, arith}
use Rattle.std.specs.Prelude.{if◌then◌else◌, ◌==◌, ◌||◌, nat_lt, nat_le}
use Rattle.std.proofs.lemmas.Bool.Decides.{nat_tests}
use Rattle.ct_core.specs.declared.event.Event.{Event}
use Rattle.ct_core.specs.declared.event.Event.TheVariants.{Claim, Look, Refuse, Hit, Stop}
use Rattle.ct_core.specs.Machine.{Sight, Machine, start_of}
use Rattle.ct_core.specs.Steps.{is_legal, machine_after, step_of}
use Rattle.ct_core.specs.Runs.{run_of}
use Rattle.ct_core.specs.CompleteList.{IsComplete, IsFaithful, IsFirstHit, first_from, decision_of, events_from}
use Rattle.std.proofs.lemmas.Bool.{and_from}
use Rattle.ct_core.proofs.RunsKeep.{step_is, run_step}
use Rattle.ct_core.proofs.FirstHit.{run_first_hit}

-- the first hit among `more` numbers from this one on, or none
abbrev IsFirstFrom : (ℕ → Bool) → ℕ → ℕ → Option ℕ → Type 0
IsFirstFrom f more from None = (x : ℕ) → from ≤ x → x < from + more → f x ≡ false
IsFirstFrom f more from (Some m) = (from ≤ m) × (m < from + more) × (f m ≡ true) × ((x : ℕ) → from ≤ x → x < m → f x ≡ false)

first_from-is : (f : ℕ → Bool) (more from : ℕ) (o : Option ℕ) → IsFirstFrom f more from o → o ≡ first_from f more from
first_from-is f zero from None first = refl
first_from-is f zero from (Some m) first = let low = first.0 in let high = first.1 in absurd (omega arith)
first_from-is f (suc more) from o first = on (f from) refl o first (λ o later. first_from-is f more (from + 1) o later)
  where
    at_hit : (o : Option ℕ) → f from ≡ true → IsFirstFrom f (suc more) from o → o ≡ Some from
    at_hit None hit first = let miss = first from (omega arith) (omega arith) in absurd (cc)
    at_hit (Some m) hit first =
        ⊎_elim
        (λ (same : m ≡ from). ap Some same)
        (λ (later : from < m). let miss = first.3 from (omega arith) later in absurd (cc))
        (apart m from first.0)
      where
        apart : (m from : ℕ) → from ≤ m → (m ≡ from) ⊎ (from < m)
        apart m from h = grind arith

    past_miss : (o : Option ℕ) → f from ≡ false → IsFirstFrom f (suc more) from o → IsFirstFrom f more (from + 1) o
    past_miss None miss first = λ x low high. first x (omega arith) (omega arith)
    past_miss (Some m) miss first =
        ⊎_elim
        (λ (same : m ≡ from). let hit = first.2 in let at : f m ≡ f from = ap f same in absurd (cc))
        (λ (later : from < m). let high = first.1 in (omega arith, omega arith, first.2, λ x low below. first.3 x (omega arith) below))
        (apart m from first.0)
      where
        apart : (m from : ℕ) → from ≤ m → (m ≡ from) ⊎ (from < m)
        apart m from h = grind arith

    on : (b : Bool) → f from ≡ b → (o : Option ℕ) → IsFirstFrom f (suc more) from o →
        ((o : Option ℕ) → IsFirstFrom f more (from + 1) o → o ≡ first_from f more (from + 1)) →
        o ≡ (if b then Some from else first_from f more (from + 1))
    on true is o first next = at_hit o is first
    on false is o first next = next o (past_miss o is first)

decision_of-is : (f : ℕ → Bool) (count : ℕ) (o : Option ℕ) → IsFirstHit f count o → o ≡ decision_of f count
decision_of-is f count None first = first_from-is f count 0 None (λ x low high. first x (omega arith))
decision_of-is f count (Some m) first = let below = first.0 in
    first_from-is f count 0 (Some m) (omega arith, omega arith, first.1, λ x low high. first.2 x high)

-- every complete and faithful list decides as one worker does
pub decides_alike : (f : ℕ → Bool) (count workers : ℕ) (events : List Event) (s : Machine) → 0 < workers →
    run_of (start_of count workers) events ≡ Some s → IsFaithful f events → IsComplete s → s.least ≡ decision_of f count
decides_alike f count workers events s some_one run faithful complete =
    decision_of-is f count s.least (run_first_hit count workers events s some_one run f faithful complete)

-- ---- the lone worker

-- what the lone worker knows between two indices
abbrev resting : List ℕ → Bool → Sight
resting done looked = record { claims = done; refuted = done; hit = None; pending = None; looked = looked; seen = None; stopped = false }

abbrev lone : ℕ → ℕ → List ℕ → Bool → Machine
lone count from done looked = record { count = count; next = from; least = None; views = resting done looked ∷ [] }

-- the list is legal, faithful and complete, and decides this
record Decides (f : ℕ → Bool) (first : Machine) (events : List Event) (decided : Option ℕ) : Type 0 where
  state : Machine
  run : run_of first events ≡ Some state
  faithful : IsFaithful f events
  complete : IsComplete state
  least : state.least ≡ decided

equal : (n : ℕ) → (n == n) ≡ true
equal n = grind (arith, nat_tests)

below : (n m : ℕ) → n < m → nat_lt n m ≡ true
below n m h = grind (arith, nat_tests)

at_most : (n m : ℕ) → n ≤ m → nat_le n m ≡ true
at_most n m h = grind (arith, nat_tests)

abbrev claimed : ℕ → List ℕ → Sight
claimed from done = record {
  claims = done ++ from ∷ [];
  refuted = done;
  hit = None;
  pending = Some from;
  looked = false;
  seen = None;
  stopped = false;
}

abbrev seen_none : ℕ → List ℕ → Sight
seen_none from done =
    record { claims = done ++ from ∷ []; refuted = done; hit = None; pending = Some from; looked = true; seen = None; stopped = false }

abbrev with_view : ℕ → ℕ → Sight → Machine
with_view count next v = record { count = count; next = next; least = None; views = v ∷ [] }

claims : (count from : ℕ) (done : List ℕ) (looked : Bool) →
    step_of (lone count from done looked) (Claim 0) ≡ Some (with_view count (from + 1) (claimed from done))
claims count from done looked = refl

looks : (count from : ℕ) (done : List ℕ) → from < count →
    step_of (with_view count (from + 1) (claimed from done)) (Look 0) ≡ Some (with_view count (from + 1) (seen_none from done))
looks count from done h = step_is (with_view count (from + 1) (claimed from done)) (Look 0) (claimed from done) refl
    (and_from _ _ (below from count h) refl)

may : (count from : ℕ) (done : List ℕ) → is_legal count (seen_none from done) (Refuse 0 from) ≡ true
may count from done = and_from true _ refl (and_from _ _ (equal from) refl)

runs : (f : ℕ → Bool) (count more from : ℕ) (done : List ℕ) (looked : Bool) → from + more ≡ count →
    Decides f (lone count from done looked) (events_from f more from) (first_from f more from)
runs f count zero from done looked all =
    let one = with_view count (from + 1) (claimed from done) in
    let past : nat_le count from ≡ true = at_most count from (omega arith) in
    let stop = step_is one (Stop 0) (claimed from done) refl (ap (λ b. b || false) past) in
    record {
      state = with_view count (from + 1) (record (claimed from done) { stopped = true });
      run = run_step (lone count from done looked) one (Claim 0) (Stop 0 ∷ []) (claims count from done looked) ∙ run_step one _ (Stop 0) [] stop;
      faithful = (tt, (tt, tt));
      complete = (refl, tt);
      least = refl;
    }
runs f count (suc more) from done looked all = on (f from) refl (runs f count more (from + 1) (done ++ from ∷ []) true (omega arith))
  where
    one : Machine
    one = with_view count (from + 1) (claimed from done)

    two : Machine
    two = with_view count (from + 1) (seen_none from done)

    start_run : (events : List Event) → run_of (lone count from done looked) (Claim 0 ∷ Look 0 ∷ events) ≡ run_of two events
    start_run events = run_step (lone count from done looked) one (Claim 0) (Look 0 ∷ events) (claims count from done looked)
        ∙ run_step one two (Look 0) events (looks count from done (omega arith))

    on : (b : Bool) → f from ≡ b → Decides f (lone count (from + 1) (done ++ from ∷ []) true) (events_from f more (from + 1))
        (first_from f more (from + 1)) →
        Decides f (lone count from done looked) (Claim 0 ∷ Look 0 ∷ (if b then Hit 0 from ∷ [] else Refuse 0 from ∷ events_from f more (from + 1)))
        (if b then Some from else first_from f more (from + 1))
    on true hit rest = record {
      state = machine_after two 0 (seen_none from done) (Hit 0 from);
      run = start_run (Hit 0 from ∷ []) ∙ run_step two _ (Hit 0 from) [] (step_is two (Hit 0 from) (seen_none from done) refl (may count from done));
      faithful = (tt, (tt, (hit, tt)));
      complete = (refl, tt);
      least = refl;
    }
    on false miss rest =
        record {
          state = rest.state;
          run = start_run (Refuse 0 from ∷ events_from f more (from + 1))
              ∙ run_step two (lone count (from + 1) (done ++ from ∷ []) true) (Refuse 0 from) (events_from f more (from + 1))
              (step_is two (Refuse 0 from) (seen_none from done) refl (may count from done)) ∙ rest.run;
          faithful = (tt, (tt, (miss, rest.faithful)));
          complete = rest.complete;
          least = rest.least;
        }

-- the lone worker's list is such a list
pub lone_decides : (f : ℕ → Bool) (count : ℕ) → (s : Machine) × (run_of (start_of count 1) (events_from f count 0) ≡ Some s) ×
    IsFaithful f (events_from f count 0) × IsComplete s × (s.least ≡ decision_of f count)
lone_decides f count = let all = runs f count count 0 [] false (omega arith) in (all.state, all.run, all.faithful, all.complete, all.least)
