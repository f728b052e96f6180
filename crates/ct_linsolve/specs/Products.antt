-- Rows multiplied out with a matrix, in checked arithmetic.
--     checked_entry rows u c         the products of the entries of u with those of a column, summed from zero in the order of the rows
--     checked_products width rows us     these for each row u, and for each column in order
use Rattle.std.specs.Prelude.{ℕ, List, length}
use Rattle.std.specs.List.{range_with_len}
use Rattle.ct_algebra.specs.Polynomial.{Polynomial, polys}
use Rattle.ct_checked.specs.Checked.{Checked, ◌>>=◌}
use Rattle.ct_checked.specs.Traversal.{checked_fold, checked_each}
use Rattle.ct_poly.specs.Measures.{checked_plus, checked_times}
use Rattle.ct_linsolve.specs.Rows.{Row, entry, row_at}

abbrev pub plus_product : Polynomial → Polynomial → Polynomial → Checked Polynomial
plus_product sum x y = do
  product ← checked_times x y
  checked_plus sum product

abbrev pub with_product : List Row → Row → ℕ → Polynomial → ℕ → Checked Polynomial
with_product rows u c sum k = plus_product sum (entry u k) (entry (row_at rows k) c)

abbrev pub checked_entry : List Row → Row → ℕ → Checked Polynomial
checked_entry rows u c = checked_fold (with_product rows u c) polys.zero (range_with_len 0 (length rows))

abbrev pub checked_product : ℕ → List Row → Row → Checked Row
checked_product width rows u = checked_each (checked_entry rows u) (range_with_len 0 width)

abbrev pub checked_products : ℕ → List Row → List Row → Checked (List Row)
checked_products width rows us = checked_each (checked_product width rows) us
