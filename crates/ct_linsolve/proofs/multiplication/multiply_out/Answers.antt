use Rattle.ct_linsolve.proofs.Base.{◌≡◌, ◌∙◌, ap, Ok, length-map, behind, each_behind}
use Rattle.ct_linsolve.specs.Products.{checked_product, checked_products}
use Rattle.ct_linsolve.specs.Views.{rows_of}
use Rattle.ct_linsolve.proofs.MultipliedOut.{none_left, products_are}
use Rattle.ct_linsolve.proofs.multiplication.multiply_out.Goals as goal

pub multiplying-init : goal.multiplying-init
multiplying-init c =
    let A = c.args.matrix.now in
    each_behind (λ _ u. checked_product A.width (rows_of A.rows.items) u) (rows_of c.in_ok-done.done.items) (rows_of c.args.rows.now)
    (ap rows_of c.in_ok-done.ensures.items)

pub returns-in_default-clause-value : goal.returns-in_default-clause-value
returns-in_default-clause-value c =
    let A = c.args.matrix.now in
    let fits : checked_products A.width (rows_of A.rows.items) (rows_of c.args.rows.now) ≡ Ok (rows_of c.multiplying.done.items) =
    c.multiplying.invariant ∙ ap (λ us. behind (λ _ u. checked_product A.width (rows_of A.rows.items) u) (rows_of c.multiplying.done.items)
    (rows_of us)) (none_left _ c.in_default.ensures.cases) in
    products_are _ A.width (rows_of A.rows.items) (rows_of c.args.rows.now) (rows_of c.multiplying.done.items) (length-map A.rows.items _) fits
