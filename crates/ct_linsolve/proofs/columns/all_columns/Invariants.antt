use Rattle.ct_linsolve.proofs.Base.{◌≡◌, ◌≢◌, ◌+◌, range_with_len, polys, checked_fold}
use Rattle.ct_linsolve.specs.EchelonViews.{working_of}
use Rattle.ct_linsolve.specs.Elimination.{checked_column}
use Rattle.ct_linsolve.proofs.columns.all_columns.Given as goal

abbrev pub invariant-columns : goal.invariant-columns
invariant-columns l =
    (checked_fold (checked_column l.certs) (working_of l.fn.start) (range_with_len 0 l.width) ≡
    checked_fold (checked_column l.certs) (working_of l.s) (range_with_len l.column l.left))
    × (l.column + l.left ≡ l.width) × (l.s.prev ≢ polys.zero)

abbrev pub decreases-columns : goal.decreases-columns
decreases-columns l = l.left
