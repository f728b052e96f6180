-- The rows that refute columns.
--     pivot_of c ps                 the pivot of a column
--     refuting_row right ps c       the right part of its row; empty where the column has no pivot
--     refuting_rows certs width right ps    these of all columns past those of certificates, in order
--     column_row rows first         the row of a column, where the rows are those of the columns from `first` on
use Rattle.std.specs.Prelude.{ℕ, ◌-◌, None, Some, List, [], eqb, map}
use Rattle.std.specs.List.{find, range_with_len}
use Rattle.std.proofs.Common.{Option}
use Rattle.ct_algebra.specs.Polynomial.{Polynomial}
use Rattle.ct_telescoping.specs.Echelon.{Pivot}
use Rattle.ct_linsolve.specs.Rows.{Row, entry, row_at}

abbrev pub pivot_of : ℕ → List Pivot → Option Pivot
pivot_of c ps = find (λ p. eqb p.column c) ps

abbrev pub right_part : List Row → Option Pivot → Row
right_part right None = []
right_part right (Some p) = row_at right p.row

abbrev pub refuting_row : List Row → List Pivot → ℕ → Row
refuting_row right ps c = right_part right (pivot_of c ps)

abbrev pub refuting_rows : ℕ → ℕ → List Row → List Pivot → List Row
refuting_rows certs width right ps = map (refuting_row right ps) (range_with_len certs (width - certs))

abbrev pub column_row : List Row → ℕ → ℕ → ℕ → Polynomial
column_row rows first c k = entry (row_at rows (c - first)) k
