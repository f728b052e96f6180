use Rattle.ct_linsolve.proofs.Base.{◌≡◌, ◌+◌}
use Rattle.ct_linsolve.specs.NullVector.{AreKnown, null_fraction, null_fractions}
use Rattle.ct_linsolve.specs.Views.{pivots_of, rows_of}
use Rattle.ct_linsolve.proofs.Refuted.{listed_behind}
use Rattle.ct_linsolve.proofs.kernel.fractions.Given as goal

abbrev pub invariant-dividing : goal.invariant-dividing
invariant-dividing l =
    (null_fractions l.width (rows_of l.left) (pivots_of l.pivots) l.free ≡
    listed_behind (null_fraction (rows_of l.left) (pivots_of l.pivots) l.free) l.column l.rest l.done.items)
    × (l.column + l.rest ≡ l.width) × AreKnown (rows_of l.left) (pivots_of l.pivots) l.free l.column

abbrev pub decreases-dividing : goal.decreases-dividing
decreases-dividing l = l.rest
