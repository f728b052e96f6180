use Rattle.ct_poly.proofs.Base.{length}
use Rattle.ct_poly.proofs.AddedSpots.{IsAdding}
use Rattle.ct_poly.proofs.cells.add_multiple.Given as goal

abbrev pub invariant-adding : goal.invariant-adding
invariant-adding l = IsAdding l.initial.cells l.fn.base l.fn.coef l.fn.spots l.cells l.left

abbrev pub decreases-adding : goal.decreases-adding
decreases-adding l = length l.left
