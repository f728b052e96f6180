use Rattle.ct_linsolve.proofs.Base.{◌≡◌, ◌+◌, length, range_with_len, checked_fold}
use Rattle.ct_linsolve.specs.Products.{checked_entry, with_product}
use Rattle.ct_linsolve.specs.Views.{rows_of}
use Rattle.ct_linsolve.proofs.multiplication.entry_product.Given as goal

abbrev pub invariant-summing : goal.invariant-summing
invariant-summing l =
    (checked_entry (rows_of l.rows) l.row l.column ≡
    checked_fold (with_product (rows_of l.rows) l.row l.column) l.sum (range_with_len l.k l.left))
    × (l.k + l.left ≡ length l.rows)

abbrev pub decreases-summing : goal.decreases-summing
decreases-summing l = l.left
