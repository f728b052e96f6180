use Rattle.ct_poly.proofs.Base.{length}
use Rattle.ct_poly.proofs.CrossCells.{IsMultiplying}
use Rattle.ct_poly.proofs.crossing.add_product.Given as goal

abbrev pub invariant-multiplying : goal.invariant-multiplying
invariant-multiplying l = IsMultiplying l.fn.tops l.initial.cells l.fn.p l.fn.x l.cells l.rest

abbrev pub decreases-multiplying : goal.decreases-multiplying
decreases-multiplying l = length l.rest
