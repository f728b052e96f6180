use Rattle.ct_poly.proofs.Base.{sym, subst, IfSome, IfOk-weaker, IfSome_then}
use Rattle.ct_poly.specs.Cells.{IsTable, IsTableOf, IsQuotient}
use Rattle.ct_poly.specs.Terms.{poly_of_terms}
use Rattle.ct_poly.proofs.cell_division.quotient_in_cells.Goals as goal

pub returns : goal.returns
returns c =
    let whole : IsTableOf c.args.ps.now c.in-Some.table.tops c.in-Some.table.cells.items =
    subst (λ o. IfSome o (λ t. IsTableOf c.args.ps.now t.tops t.cells.items)) c.in-Some.is c.in_ok-table.ensures in
    let table : IsTable c.in-Some.table.tops (poly_of_terms c.args.ps.now) c.as_mut_slice.result.now =
    subst (IsTable c.in-Some.table.tops (poly_of_terms c.args.ps.now)) (sym c.as_mut_slice.ensures.value) whole.table in
    IfOk-weaker c.taken_out.result _ _
    (λ o found. IfSome_then o found
    (λ q is. subst (λ m. IsQuotient (poly_of_terms c.args.ps.now) m.count m.norm c.args.by.now q.items) c.measure_of_terms.ensures
    (is (poly_of_terms c.args.ps.now) table)))
    c.taken_out.ensures
