use Rattle.ct_linsolve.proofs.Base.{◌≡◌, true, false, rules, subst, IfOk-weaker}
use Rattle.ct_linsolve.specs.DividedRow.{IsDividedEntry}
use Rattle.ct_linsolve.proofs.DividedRows.{zero_divided, both_zero_divided, cross_divided, IfSome_weaker}
use Rattle.ct_linsolve.proofs.entries.divided_entry.Goals as goal

pub returns-then-at_pivot : goal.returns-then-at_pivot
returns-then-at_pivot c =
    let there : true ≡ c.args.at_pivot = search rules in
    subst (λ b. IsDividedEntry b c.args.p.now c.args.a.now c.args.by.now c.args.x.now c.args.y.now c.zero.result) there
    (zero_divided c.args.by.now c.requires c.args.p.now c.args.a.now c.args.x.now c.args.y.now c.zero.result c.zero.ensures)

pub returns-then-is_zero-2 : goal.returns-then-is_zero-2
returns-then-is_zero-2 c =
    both_zero_divided c.args.by.now c.requires c.args.at_pivot c.args.p.now c.args.a.now c.args.x.now c.args.y.now c.zero-then-is_zero-2.result
    (c.is_zero.ensures.0 c.if-is_zero.true)
    (c.is_zero-then-is_zero.ensures.0 c.if-is_zero-2.true) c.zero-then-is_zero-2.ensures

pub returns : goal.returns
returns c =
    let elsewhere : c.args.at_pivot ≡ false = search rules in
    IfOk-weaker c.cross_quotient.result _ _
    (λ o found. IfSome_weaker o (λ q is. cross_divided c.args.by.now c.requires c.args.at_pivot c.args.p.now c.args.a.now c.args.x.now
    c.args.y.now q elsewhere is) found)
    c.cross_quotient.ensures
