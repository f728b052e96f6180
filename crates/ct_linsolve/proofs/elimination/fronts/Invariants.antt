use Rattle.ct_linsolve.proofs.Base.{◌≡◌, ◌++◌, length, map, take}
use Rattle.ct_linsolve.specs.Views.{rows_of}
use Rattle.ct_linsolve.proofs.elimination.fronts.Given as goal

abbrev pub invariant-taking : goal.invariant-taking
invariant-taking l = map (take l.width) (rows_of l.fn.rows) ≡ rows_of l.done.items ++ map (take l.width) (rows_of l.rest)

abbrev pub decreases-taking : goal.decreases-taking
decreases-taking l = length l.rest
