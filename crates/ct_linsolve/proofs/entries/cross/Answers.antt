use Rattle.ct_linsolve.proofs.Base.{◌∙◌, sym, subst, IfSome, IsCrossQuotient}
use Rattle.ct_linsolve.proofs.DividedRows.{crossed_by_one}
use Rattle.ct_linsolve.proofs.Pivots.{one_nonzero}
use Rattle.ct_linsolve.proofs.entries.cross.Goals as goal

pub cross_quotient-requires : goal.cross_quotient-requires
cross_quotient-requires c = λ vanishes. one_nonzero (sym c.requires ∙ vanishes)

pub returns-in-Some : goal.returns-in-Some
returns-in-Some c =
    let found : IsCrossQuotient c.args.p.now c.args.a.now c.args.x.now c.args.y.now c.args.one.now c.in-Some.found =
    subst (λ o. IfSome o (λ q. IsCrossQuotient c.args.p.now c.args.a.now c.args.x.now c.args.y.now c.args.one.now q)) c.in-Some.is
    c.in_ok-found.ensures in
    crossed_by_one c.args.p.now c.args.a.now c.args.x.now c.args.y.now c.in-Some.found
    (subst (λ f. IsCrossQuotient c.args.p.now c.args.a.now c.args.x.now c.args.y.now f c.in-Some.found) c.requires found)
