use Rattle.ct_linsolve.specs.Slimming.{row_degree}
use Rattle.ct_linsolve.proofs.DividedOut.{IsDividingOut}
use Rattle.ct_linsolve.proofs.slimming.divide_out.Given as goal

abbrev pub invariant-dividing : goal.invariant-dividing
invariant-dividing l = IsDividingOut l.by l.fn.row.items l.row.items

abbrev pub decreases-dividing : goal.decreases-dividing
decreases-dividing l = row_degree l.row.items
