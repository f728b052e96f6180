use Rattle.ct_linsolve.proofs.Base.{◌≡◌, length}
use Rattle.ct_linsolve.specs.Elimination.{with_unit}
use Rattle.ct_linsolve.specs.Views.{rows_of}
use Rattle.ct_linsolve.proofs.Starts.{rows_behind}
use Rattle.ct_linsolve.proofs.elimination.with_unit.Given as goal

abbrev pub invariant-joining : goal.invariant-joining
invariant-joining l = with_unit (rows_of l.fn.rows) ≡ rows_behind (length l.fn.rows) (rows_of l.done.items) (rows_of l.rest)

abbrev pub decreases-joining : goal.decreases-joining
decreases-joining l = length l.rest
