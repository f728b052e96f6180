use Rattle.ct_border.proofs.Base.{length}
use Rattle.ct_border.proofs.ZeroImages.{IsKilling}
use Rattle.ct_border.proofs.killed.killed.Given as goal

abbrev pub invariant-going : goal.invariant-going
invariant-going l = IsKilling l.algebra l.space l.generators l.number l.rest

abbrev pub decreases-going : goal.decreases-going
decreases-going l = length l.rest
