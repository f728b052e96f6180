use Rattle.ct_poly.proofs.Base.{◌≡◌, ◌∙◌, ◌++◌, take, drop, length, sym, ap, subst, arith}
use Rattle.std.proofs.Math.Seq.{take-append_seam}
use Rattle.ct_poly.specs.Cells.{IsTableOf}
use Rattle.ct_poly.proofs.CellSteps.{zeros_are, start_inside, table_start}
use Rattle.ct_poly.proofs.cell_division.table_of_terms.Goals as goal

pub add_multiple-requires-clause-inside : goal.add_multiple-requires-clause-inside
add_multiple-requires-clause-inside c =
    let zeros = zeros_are (c.as_mut_slice.ensures.value ∙ c.in_ok-cells.ensures) in
    start_inside c.in-Some.tops c.args.ts.now c.as_slice.result.now c.as_mut_slice.result.now
    (c.as_slice.ensures.value ∙ c.in_ok-spots.ensures) c.in-Some.ensures
    (zeros.1 ∙ c.in-Some-number_of_cells.ensures.0) zeros.0

pub returns : goal.returns
returns c =
    let zeros = zeros_are (c.as_mut_slice.ensures.value ∙ c.in_ok-cells.ensures) in
    let table : IsTableOf c.args.ts.now c.in-Some.tops c.add_multiple.new.cells =
    table_start c.in-Some.tops c.args.ts.now c.as_slice.result.now c.as_mut_slice.result.now
    (c.as_slice.ensures.value ∙ c.in_ok-spots.ensures) c.in-Some.ensures
    (zeros.1 ∙ c.in-Some-number_of_cells.ensures.0) zeros.0
    (omega (arith, c.in-Some-number_of_cells.ensures.0, c.in-Some-number_of_cells.ensures.1, c.most_cells_for.ensures.1))
    c.add_multiple.ensures.cells c.add_multiple.ensures.small in
    let long : c.in_ok-cells.cells.len ≡ length c.add_multiple.new.cells =
    omega (arith, c.as_mut_slice.ensures.len, zeros.1, table.table.whole, c.in-Some-number_of_cells.ensures.0) in
    subst (IsTableOf c.args.ts.now c.in-Some.tops)
    (sym (ap (λ n. take n (c.add_multiple.new.cells ++ drop (length c.add_multiple.new.cells) c.in_ok-cells.cells.items)) long
    ∙ take-append_seam c.add_multiple.new.cells _)) table
