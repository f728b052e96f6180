use Rattle.ct_linsolve.proofs.Base.{◌≡◌, ◌+◌}
use Rattle.ct_linsolve.specs.Refuting.{refuting_row, refuting_rows}
use Rattle.ct_linsolve.specs.Views.{pivots_of, rows_of}
use Rattle.ct_linsolve.proofs.Refuted.{listed_behind}
use Rattle.ct_linsolve.proofs.refutation.refuting_rows.Given as goal

abbrev pub invariant-choosing : goal.invariant-choosing
invariant-choosing l =
    (refuting_rows l.echelon.certs l.echelon.width (rows_of l.echelon.right.items) (pivots_of l.echelon.pivots.items) ≡
    listed_behind (refuting_row (rows_of l.echelon.right.items) (pivots_of l.echelon.pivots.items)) l.column l.left (rows_of l.done.items))
    × (l.column + l.left ≡ l.echelon.width)

abbrev pub decreases-choosing : goal.decreases-choosing
decreases-choosing l = l.left
