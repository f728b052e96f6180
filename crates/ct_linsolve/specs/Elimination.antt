-- Fraction-free elimination in checked arithmetic, on the rows of [A | I] (this project's own rules of division and overflow).
--     with_unit rows              the rows of [A | I]
--     checked_crossed c p a pivot r    the row p·row − a·pivotrow, entry by entry, left to right: the first product, the second,
--                                 the difference; the entry of the pivot column c is zero without arithmetic
--     checked_other c pivot prev r     what becomes of another row: that row, with p and a the entries in the pivot column, over the
--                                 primitive form of `prev` where this divides every entry, and then over the greatest whole number that
--                                 divides all its coefficients
--     checked_rows c q prev rows  all rows in order; the pivot row q is kept
--     pivot_row c ps rows         the first unused row with a nonzero entry
--     Working                     the rows, the pivots so far, the pivot entry before, and the free column once there is one
--     checked_column certs c s    one column: it has a pivot, or is passed over, or is the free column, at which elimination ends
--     checked_elimination certs width rows    all columns of A in order, of which the first `certs` are those of certificates
-- Divisions by `prev` and by whole numbers refuse nothing; products and differences overflow.
use Rattle.std.specs.Prelude.{ℕ, ◌++◌, Ok, None, Some, List, [], ◌∷◌, cond, eqb, ltb, Bool, not, ◌&&◌, length, map, take, drop}
use Rattle.std.specs.List.{find, list_any, range_with_len}
use Rattle.std.proofs.Common.{Option}
use Rattle.ct_algebra.specs.Polynomial.{Polynomial, polys}
use Rattle.ct_checked.specs.Checked.{Checked, ◌>>=◌}
use Rattle.ct_checked.specs.Traversal.{checked_fold, checked_each_from}
use Rattle.ct_poly.specs.Content.{primitive_form}
use Rattle.ct_poly.specs.Crossing.{checked_cross}
use Rattle.ct_telescoping.specs.Echelon.{Pivot}
use Rattle.ct_linsolve.specs.Rows.{Row, entry, row_at, over_divisor, over_content}

-- ---- the rows of [A | I]

abbrev pub unit_row : ℕ → ℕ → Row
unit_row n r = map (λ k. cond (eqb k r) polys.one polys.zero) (range_with_len 0 n)

abbrev pub with_unit : List Row → List Row
with_unit rows = map (λ r. row_at rows r ++ unit_row (length rows) r) (range_with_len 0 (length rows))

-- ---- one row

abbrev pub crossed_entry : ℕ → Polynomial → Polynomial → Row → ℕ → Polynomial → Checked Polynomial
crossed_entry c p a pivot k x = cond (eqb k c) (Ok polys.zero) (checked_cross p a x (entry pivot k))

abbrev pub checked_crossed : ℕ → Polynomial → Polynomial → Row → Row → Checked Row
checked_crossed c p a pivot r = checked_each_from 0 (crossed_entry c p a pivot) r

-- the same over f, where that divides every entry
unfoldable pub checked_divided : ℕ → Polynomial → Polynomial → Polynomial → Row → Row → Checked Row
checked_divided c p a f pivot r = do
  crossed ← checked_crossed c p a pivot r
  Ok (over_divisor f crossed)

unfoldable pub checked_other : ℕ → Row → Polynomial → Row → Checked Row
checked_other c pivot prev r = do
  row ← checked_divided c (entry pivot c) (entry r c) (primitive_form prev) pivot r
  Ok (over_content row)

-- ---- all rows

abbrev pub row_after : ℕ → ℕ → Row → Polynomial → ℕ → Row → Checked Row
row_after c q pivot prev k r = cond (eqb k q) (Ok r) (checked_other c pivot prev r)

abbrev pub checked_rows : ℕ → ℕ → Polynomial → List Row → Checked (List Row)
checked_rows c q prev rows = checked_each_from 0 (row_after c q (row_at rows q) prev) rows

-- ---- one column

abbrev pub is_used : ℕ → List Pivot → Bool
is_used r ps = list_any (λ p. eqb r p.row) ps

abbrev pub is_pivot_row : ℕ → List Pivot → List Row → ℕ → Bool
is_pivot_row c ps rows r = not (is_used r ps) && not (polys.is_zero (entry (row_at rows r) c))

abbrev pub pivot_row : ℕ → List Pivot → List Row → Option ℕ
pivot_row c ps rows = find (is_pivot_row c ps rows) (range_with_len 0 (length rows))

pub record Working : Type 0 where
  pub rows : List Row
  pub pivots : List Pivot
  pub prev : Polynomial
  pub free : Option ℕ

unfoldable pub checked_pivot : ℕ → ℕ → Working → Checked Working
checked_pivot c q s = do
  rows ← checked_rows c q s.prev s.rows
  Ok (record { rows = rows; pivots = s.pivots ++ record { row = q; column = c } ∷ []; prev = entry (row_at s.rows q) c; free = None })

abbrev pub without_pivot : ℕ → ℕ → Working → Working
without_pivot certs c s = cond (ltb c certs) s (record { rows = s.rows; pivots = s.pivots; prev = s.prev; free = Some c })

abbrev pub by_pivot : ℕ → ℕ → Working → Option ℕ → Checked Working
by_pivot certs c s None = Ok (without_pivot certs c s)
by_pivot certs c s (Some q) = checked_pivot c q s

-- behind a free column nothing is done
abbrev pub unless_free : Option ℕ → Working → Checked Working → Checked Working
unless_free None s next = next
unless_free (Some f) s next = Ok s

unfoldable pub checked_column : ℕ → Working → ℕ → Checked Working
checked_column certs s c = unless_free s.free s (by_pivot certs c s (pivot_row c s.pivots s.rows))

-- ---- the whole

abbrev pub start : List Row → Working
start rows = record { rows = with_unit rows; pivots = []; prev = polys.one; free = None }

-- both parts of the rows, the pivots, and the free column, where there is one
pub record Eliminated : Type 0 where
  pub left : List Row
  pub right : List Row
  pub pivots : List Pivot
  pub free : Option ℕ

abbrev pub parted : ℕ → Working → Eliminated
parted width s = record {
  left = map (take width) s.rows;
  right = map (drop width) s.rows;
  pivots = s.pivots;
  free = s.free;
}

unfoldable pub checked_elimination : ℕ → ℕ → List Row → Checked Eliminated
checked_elimination certs width rows = do
  s ← checked_fold (checked_column certs) (start rows) (range_with_len 0 width)
  Ok (parted width s)
