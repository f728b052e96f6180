use Rattle.ct_linsolve.proofs.Base.{◌≡◌, length}
use Rattle.ct_linsolve.specs.Elimination.{checked_rows, row_after}
use Rattle.ct_linsolve.specs.Views.{rows_of}
use Rattle.ct_linsolve.proofs.FromZero.{behind}
use Rattle.ct_linsolve.proofs.rows.rows_at_pivot.Given as goal

abbrev pub invariant-going : goal.invariant-going
invariant-going l =
    checked_rows l.column l.place l.prev (rows_of l.old) ≡
    behind (row_after l.column l.place l.pivot l.prev) (rows_of l.done.items) (rows_of l.rest)

abbrev pub decreases-going : goal.decreases-going
decreases-going l = length l.rest
