use Rattle.ct_poly.proofs.Base.{◌≤◌}
use Rattle.ct_poly.proofs.cell_division.highest_cell.Given as goal

abbrev pub invariant-searching : goal.invariant-searching
invariant-searching l = l.at ≤ l.fn.below

abbrev pub decreases-searching : goal.decreases-searching
decreases-searching l = l.at
