-- Lists of events.
--     run_of machine events        the machine after all of them, or none where one is not legal
--     FailsAt machine events place the first that is not legal stands at this place
use Rattle.std.specs.Prelude.{◌≡◌, ℕ, List, [], ◌∷◌, Option, Some, None, slice_get, take}
use Rattle.ct_core.specs.declared.event.Event.{Event}
use Rattle.ct_core.specs.declared.state.CoreFault.{CoreFault}
use Rattle.ct_core.specs.declared.state.CoreFault.TheVariants.{Illegal, NoMemory}
use Rattle.ct_core.specs.Machine.{Machine}
use Rattle.ct_core.specs.Steps.{step_of}

-- all events in turn, if each is legal where it comes
abbrev pub run_of : Machine → List Event → Option Machine
run_of s [] = Some s
run_of s (e ∷ es) = elim (step_of s e) [ None ↦ None | Some t ↦ run_of t es ]

-- the first event that is not legal stands at this place
abbrev pub FailsAt : Machine → List Event → ℕ → Type 0
FailsAt s es place = (t : Machine) × (e : Event) × (run_of s (take place es) ≡ Some t) × (slice_get es place ≡ Some e) × (step_of t e ≡ None)

-- Illegal names the place of the first event that is not legal. Out of memory says nothing.
abbrev pub Fails : Machine → List Event → CoreFault → Type 0
Fails s es (Illegal place) = FailsAt s es place
Fails s es NoMemory = Unit {0}
