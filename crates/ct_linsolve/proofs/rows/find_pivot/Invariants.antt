use Rattle.ct_linsolve.proofs.Base.{◌≡◌, length, ◌+◌}
use Rattle.ct_linsolve.specs.Elimination.{pivot_row}
use Rattle.ct_linsolve.specs.Views.{pivots_of, rows_of}
use Rattle.ct_linsolve.proofs.Pivots.{seek}
use Rattle.ct_linsolve.proofs.rows.find_pivot.Given as goal

abbrev pub invariant-seeking : goal.invariant-seeking
invariant-seeking l =
    (pivot_row l.column (pivots_of l.pivots) (rows_of l.rows) ≡ seek l.column (pivots_of l.pivots) l.place (rows_of l.rest))
    × (l.place + length l.rest ≡ length l.rows)

abbrev pub decreases-seeking : goal.decreases-seeking
decreases-seeking l = length l.rest
