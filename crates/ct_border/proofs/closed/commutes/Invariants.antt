use Rattle.ct_border.proofs.Base.{length}
use Rattle.ct_border.proofs.CommutingRows.{IsComparing}
use Rattle.ct_border.proofs.closed.commutes.Given as goal

abbrev pub invariant-comparing : goal.invariant-comparing
invariant-comparing l = IsComparing l.algebra l.space l.first l.second l.element l.place l.left l.right

abbrev pub decreases-comparing : goal.decreases-comparing
decreases-comparing l = length l.left
