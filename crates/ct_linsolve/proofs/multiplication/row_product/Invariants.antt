use Rattle.ct_linsolve.proofs.Base.{◌≡◌, ◌+◌, range_with_len, behind}
use Rattle.ct_linsolve.specs.Products.{checked_entry, checked_product}
use Rattle.ct_linsolve.specs.Views.{rows_of}
use Rattle.ct_linsolve.proofs.multiplication.row_product.Given as goal

abbrev pub invariant-multiplying : goal.invariant-multiplying
invariant-multiplying l =
    (checked_product l.width (rows_of l.rows) l.row ≡
    behind (λ _ c. checked_entry (rows_of l.rows) l.row c) l.done.items (range_with_len l.column l.left))
    × (l.column + l.left ≡ l.width)

abbrev pub decreases-multiplying : goal.decreases-multiplying
decreases-multiplying l = l.left
