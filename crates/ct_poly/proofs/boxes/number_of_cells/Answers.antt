use Rattle.ct_poly.proofs.Base.{◌∙◌, arith}
use Rattle.ct_poly.proofs.CellNumbers.{all_cells}
use Rattle.ct_poly.proofs.boxes.number_of_cells.Goals as goal

pub returns : goal.returns
returns c =
    (c.loop-i.invariant.0 ∙ all_cells c.args.tops.now (omega (arith, c.loop-i-test.false, c.loop-i.auto.i-end)), c.loop-i.invariant.1)
