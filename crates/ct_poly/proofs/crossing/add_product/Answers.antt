use Rattle.ct_poly.proofs.Base.{◌≡◌, length, FitsSigned, to_z, of_z, rules, w128, to_z-of_z}
use Rattle.ct_poly.proofs.CrossCells.{multiplying_start, multiplying_more, multiple_inside, multiplied}
use Rattle.ct_poly.proofs.crossing.add_product.Goals as goal

pub multiplying-init : goal.multiplying-init
multiplying-init c = multiplying_start c.requires.inside.0 c.requires.inside.1 c.requires.cells.0

pub add_multiple-requires-clause-inside : goal.add_multiple-requires-clause-inside
add_multiple-requires-clause-inside c =
    multiple_inside c.in-Some.ensures.cases.0 c.cell_of.ensures c.requires.inside.2 c.multiplying.invariant

pub multiplying-preserved : goal.multiplying-preserved
multiplying-preserved c =
    let fits : FitsSigned w128 c.in-Some.t.now.coef = search rules in
    let long : length c.add_multiple.new.cells ≡ length c.multiplying.cells = search rules in
    multiplying_more c.in-Some.ensures.cases.0 c.cell_of.ensures c.requires.inside.2 c.multiplying.invariant
    (to_z w128 (of_z w128 c.in-Some.t.now.coef)) (to_z-of_z w128 _ fits)
    c.add_multiple.ensures.cells c.add_multiple.ensures.small long

pub returns : goal.returns
returns c = multiplied c.in_default.ensures.cases c.multiplying.invariant
