use Rattle.ct_linsolve.proofs.Base.{◌≡◌, ◌+◌, ◌++◌}
use Rattle.ct_linsolve.specs.Elimination.{unit_row}
use Rattle.ct_linsolve.proofs.Starts.{unit_behind}
use Rattle.ct_linsolve.proofs.elimination.joined.Given as goal

abbrev pub invariant-joining : goal.invariant-joining
invariant-joining l =
    (l.fn.row ++ unit_row l.count l.place ≡ unit_behind l.place l.i l.left l.done.items) × (l.i + l.left ≡ l.count)

abbrev pub decreases-joining : goal.decreases-joining
decreases-joining l = l.left
