use Rattle.ct_border.proofs.Base.{Err, IfSome_then, err_from_is_err_and}
use Rattle.ct_border.specs.BuildViews.{build_refusal_of}
use Rattle.ct_border.proofs.CommutingRows.{pairing_more, pairing_open}
use Rattle.ct_border.proofs.closed.commutes_with_each.Goals as goal

pub returns-in_err-commutes_on_rows-clause-answers : goal.returns-in_err-commutes_on_rows-clause-answers
returns-in_err-commutes_on_rows-clause-answers c =
    let exit = err_from_is_err_and c.from_residual.result c.from_residual.ensures.1 in
    rw (exit.1, exit.2) (IfSome_then (build_refusal_of c.in_err-commutes_on_rows.field-0.0) c.in_err-commutes_on_rows.ensures.answers
    (λ r refused. pairing_open c.args.algebra.now c.args.space.now c.args.first c.args.others.now c.going.rest.now c.in-Some.more.now
    c.in-Some.second.now c.going.invariant c.in-Some.ensures.cases.0 (Err r) refused))

pub going-preserved : goal.going-preserved
going-preserved c =
    pairing_more c.args.algebra.now c.args.space.now c.args.first c.args.others.now c.going.rest.now c.in-Some.more.now c.in-Some.second.now
    c.going.invariant c.in-Some.ensures.cases.0 c.in_ok-commutes_on_rows.ensures.answers c.in_ok-commutes_on_rows.ensures.means
