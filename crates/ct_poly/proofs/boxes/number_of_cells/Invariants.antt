use Rattle.ct_poly.proofs.Base.{◌≡◌, ◌≤◌}
use Rattle.ct_poly.specs.Cells.{cells_below}
use Rattle.ct_poly.proofs.boxes.number_of_cells.Given as goal

abbrev pub invariant-loop-i : goal.invariant-loop-i
invariant-loop-i l = (l.number ≡ cells_below l.i l.fn.tops) × (l.number ≤ l.fn.most)
