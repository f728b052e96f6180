use Rattle.ct_poly.proofs.Base.{arith, IfOk-weaker, IfSome_then}
use Rattle.ct_poly.proofs.CrossCells.{zeros_small, crossed_table}
use Rattle.ct_poly.proofs.crossing.taken_from_products.Goals as goal

pub add_product-requires-clause-small : goal.add_product-requires-clause-small
add_product-requires-clause-small c =
    omega (arith, zeros_small c.args.cells.now c.requires.zeros, c.requires.small, c.requires.norm.0)

pub add_product-requires-2-clause-small : goal.add_product-requires-2-clause-small
add_product-requires-2-clause-small c =
    omega (arith, zeros_small c.args.cells.now c.requires.zeros, c.add_product.ensures.small, c.requires.small, c.requires.norm.0)

pub taken_out-requires-clause-small : goal.taken_out-requires-clause-small
taken_out-requires-clause-small c =
    omega (arith, zeros_small c.args.cells.now c.requires.zeros, c.add_product.ensures.small, c.add_product-2.ensures.small, c.requires.small)

pub returns : goal.returns
returns c =
    IfOk-weaker c.taken_out.result _ _
    (λ o found. IfSome_then o found (λ q is. is _ (crossed_table c.requires.zeros c.requires.cells.0 c.add_product.ensures c.add_product-2.ensures)))
    c.taken_out.ensures
