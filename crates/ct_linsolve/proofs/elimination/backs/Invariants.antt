use Rattle.ct_linsolve.proofs.Base.{◌≡◌, ◌++◌, length, map, drop}
use Rattle.ct_linsolve.specs.Views.{rows_of}
use Rattle.ct_linsolve.proofs.elimination.backs.Given as goal

abbrev pub invariant-dropping : goal.invariant-dropping
invariant-dropping l = map (drop l.width) (rows_of l.fn.rows) ≡ rows_of l.done.items ++ map (drop l.width) (rows_of l.rest)

abbrev pub decreases-dropping : goal.decreases-dropping
decreases-dropping l = length l.rest
