use Rattle.ct_linsolve.proofs.Base.{length}
use Rattle.ct_linsolve.proofs.DividedRows.{IsDividing}
use Rattle.ct_linsolve.proofs.entries.divided_row.Given as goal

abbrev pub invariant-dividing : goal.invariant-dividing
invariant-dividing l = IsDividing l.column l.p l.a l.by l.pivot l.row l.done.items l.rest

abbrev pub decreases-dividing : goal.decreases-dividing
decreases-dividing l = length l.rest
