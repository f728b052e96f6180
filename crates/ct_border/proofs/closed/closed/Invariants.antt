use Rattle.ct_border.proofs.Base.{length}
use Rattle.ct_border.proofs.CommutingRows.{IsClosing}
use Rattle.ct_border.proofs.closed.closed.Given as goal

abbrev pub invariant-going : goal.invariant-going
invariant-going l = IsClosing l.algebra l.space l.rest

abbrev pub decreases-going : goal.decreases-going
decreases-going l = length l.rest
