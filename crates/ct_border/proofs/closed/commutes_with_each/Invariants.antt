use Rattle.ct_border.proofs.Base.{length}
use Rattle.ct_border.proofs.CommutingRows.{IsPairing}
use Rattle.ct_border.proofs.closed.commutes_with_each.Given as goal

abbrev pub invariant-going : goal.invariant-going
invariant-going l = IsPairing l.algebra l.space l.first l.others l.rest

abbrev pub decreases-going : goal.decreases-going
decreases-going l = length l.rest
