use Rattle.ct_linsolve.proofs.Base.{◌≡◌, length}
use Rattle.ct_linsolve.specs.Refuting.{pivot_of}
use Rattle.ct_linsolve.specs.Views.{pivots_of}
use Rattle.ct_linsolve.proofs.rows.pivot_of.Given as goal

abbrev pub invariant-seeking : goal.invariant-seeking
invariant-seeking l = pivot_of l.column (pivots_of l.pivots) ≡ pivot_of l.column (pivots_of l.rest)

abbrev pub decreases-seeking : goal.decreases-seeking
decreases-seeking l = length l.rest
