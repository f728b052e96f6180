use Rattle.ct_linsolve.proofs.Base.{◌≡◌, length, behind}
use Rattle.ct_linsolve.specs.Products.{checked_product, checked_products}
use Rattle.ct_linsolve.specs.Views.{rows_of}
use Rattle.ct_linsolve.proofs.multiplication.multiply_out.Given as goal

abbrev pub invariant-multiplying : goal.invariant-multiplying
invariant-multiplying l =
    checked_products l.matrix.width (rows_of l.matrix.rows.items) (rows_of l.fn.rows) ≡
    behind (λ _ u. checked_product l.matrix.width (rows_of l.matrix.rows.items) u) (rows_of l.done.items) (rows_of l.rest)

abbrev pub decreases-multiplying : goal.decreases-multiplying
decreases-multiplying l = length l.rest
