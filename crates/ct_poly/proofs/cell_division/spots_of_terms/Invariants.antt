use Rattle.ct_poly.proofs.Base.{length}
use Rattle.ct_poly.proofs.CellSteps.{IsPlacing}
use Rattle.ct_poly.proofs.cell_division.spots_of_terms.Given as goal

abbrev pub invariant-placing : goal.invariant-placing
invariant-placing l = IsPlacing l.fn.tops l.fn.ts l.out.items l.rest

abbrev pub decreases-placing : goal.decreases-placing
decreases-placing l = length l.rest
