use Rattle.ct_border.proofs.Base.{length}
use Rattle.ct_border.proofs.ZeroImages.{IsPassingZeros}
use Rattle.ct_border.proofs.killed.all_zero.Given as goal

abbrev pub invariant-going : goal.invariant-going
invariant-going l = IsPassingZeros l.v l.rest

abbrev pub decreases-going : goal.decreases-going
decreases-going l = length l.rest
