use Rattle.ct_reduce.proofs.Base.{◌≡◌, ◌++◌, length}
use Rattle.ct_reduce.specs.Reduction.{no_cofactors}
use Rattle.ct_reduce.proofs.reduction.no_cofactors.Given as goal

abbrev pub invariant-filling : goal.invariant-filling
invariant-filling l = no_cofactors l.fn.generators ≡ l.done.items ++ no_cofactors l.rest

abbrev pub decreases-filling : goal.decreases-filling
decreases-filling l = length l.rest
