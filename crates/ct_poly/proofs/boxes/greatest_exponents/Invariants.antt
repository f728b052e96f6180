use Rattle.ct_poly.proofs.Base.{length}
use Rattle.ct_poly.proofs.BoundingBoxes.{IsBounding}
use Rattle.ct_poly.proofs.boxes.greatest_exponents.Given as goal

abbrev pub invariant-raising : goal.invariant-raising
invariant-raising l = IsBounding l.fn.ts l.greatest l.rest

abbrev pub decreases-raising : goal.decreases-raising
decreases-raising l = length l.rest
