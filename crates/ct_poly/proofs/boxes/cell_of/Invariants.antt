use Rattle.ct_poly.proofs.Base.{◌≡◌}
use Rattle.ct_poly.specs.Cells.{cell_below}
use Rattle.ct_poly.proofs.boxes.cell_of.Given as goal

abbrev pub invariant-loop-i : goal.invariant-loop-i
invariant-loop-i l = l.number ≡ cell_below l.i l.fn.tops l.fn.mono
