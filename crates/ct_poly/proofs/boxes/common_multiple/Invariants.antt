use Rattle.ct_poly.proofs.BoundingBoxes.{IsRaising}
use Rattle.ct_poly.proofs.boxes.common_multiple.Given as goal

abbrev pub invariant-loop-i : goal.invariant-loop-i
invariant-loop-i l = IsRaising l.fn.m l.fn.n l.multiple l.i
