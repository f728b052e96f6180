use Rattle.ct_linsolve.proofs.Base.{subst, IfSome}
use Rattle.ct_linsolve.specs.DividedRow.{IsDividedRow}
use Rattle.ct_linsolve.proofs.DividedRows.{divided_answers}
use Rattle.ct_linsolve.proofs.entries.crossed_and_divided.Goals as goal

pub returns-in-Some : goal.returns-in-Some
returns-in-Some c =
    let found : IsDividedRow c.args.column c.args.p.now c.args.a.now c.args.by.now c.args.pivot.now c.args.row.now c.in-Some.found.items =
    subst (λ o. IfSome o (λ v. IsDividedRow c.args.column c.args.p.now c.args.a.now c.args.by.now c.args.pivot.now c.args.row.now v.items))
    c.in-Some.is c.in_ok-found.ensures in
    divided_answers found
