use Rattle.ct_linsolve.proofs.Base.{eqb, rules, subst, IfSome}
use Rattle.ct_linsolve.specs.DividedRow.{IsDividedEntry}
use Rattle.ct_linsolve.proofs.DividedRows.{dividing_start, dividing_more, divided_all}
use Rattle.ct_linsolve.proofs.entries.divided_row.Goals as goal

pub dividing-init : goal.dividing-init
dividing-init c =
    dividing_start c.args.column c.args.p.now c.args.a.now c.args.by.now c.args.pivot.now c.args.row.now c.in_ok-done.ensures.items

pub dividing-preserved : goal.dividing-preserved
dividing-preserved c =
    let made : IsDividedEntry (eqb c.len-in-dividing.result c.args.column) c.args.p.now c.args.a.now c.args.by.now c.in-Some.x.now
    c.unwrap_or-y.result.now c.in-Some-2.q =
    subst (λ o. IfSome o (λ q. IsDividedEntry (eqb c.len-in-dividing.result c.args.column) c.args.p.now c.args.a.now c.args.by.now
    c.in-Some.x.now c.unwrap_or-y.result.now q))
    c.in-Some-2.is c.in_ok-q.ensures in
    dividing_more (eqb c.len-in-dividing.result c.args.column) (search rules) (search rules) (search rules) (search rules) made c.dividing.invariant

pub returns-in_default : goal.returns-in_default
returns-in_default c = divided_all c.dividing.invariant c.in_default.ensures.cases
