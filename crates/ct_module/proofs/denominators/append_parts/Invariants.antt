use Rattle.ct_module.proofs.Base.{◌≡◌, ◌++◌, length}
use Rattle.ct_frac.specs.FractionLaws.{EachIsWritten}
use Rattle.ct_module.specs.Denominators.{parts_of}
use Rattle.ct_module.proofs.denominators.append_parts.Given as goal

abbrev pub invariant-appending : goal.invariant-appending
invariant-appending l =
    (l.parts.items ++ parts_of l.algebra l.rest ≡ l.initial.parts.items ++ parts_of l.algebra l.column) × EachIsWritten l.parts.items

abbrev pub decreases-appending : goal.decreases-appending
decreases-appending l = length l.rest
