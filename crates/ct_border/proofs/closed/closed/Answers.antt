use Rattle.ct_border.proofs.Base.{◌∙◌, AllPairs, Err, IfSome_then, actions_of, err_from_is_err_and, pairs_head, subst}
use Rattle.ct_border.specs.BuildViews.{build_refusal_of}
use Rattle.ct_border.specs.Modules.{AreInOrder}
use Rattle.ct_border.proofs.CommutingRows.{closing_end, closing_more, closing_open, closing_start}
use Rattle.ct_border.proofs.closed.closed.Goals as goal

pub going-init : goal.going-init
going-init c =
    closing_start c.args.algebra.now c.args.space.now c.as_slice-rest.result.now (c.as_slice-rest.ensures.value ∙ c.in_ok-names.ensures)

pub commutes_with_each-requires-clause-names : goal.commutes_with_each-requires-clause-names
commutes_with_each-requires-clause-names c =
    pairs_head (AreInOrder (actions_of c.args.algebra.now)) c.in-Some.first.now c.in-Some.others.now
    (subst (AllPairs (AreInOrder (actions_of c.args.algebra.now))) c.in-Some.ensures.cases.0 c.going.invariant.names)

pub returns-in_err-commutes_with_each-clause-answers : goal.returns-in_err-commutes_with_each-clause-answers
returns-in_err-commutes_with_each-clause-answers c =
    let exit = err_from_is_err_and c.from_residual-in_err-commutes_with_each.result c.from_residual-in_err-commutes_with_each.ensures.1 in
    rw (exit.1, exit.2) (IfSome_then (build_refusal_of c.in_err-commutes_with_each.field-0.0) c.in_err-commutes_with_each.ensures.answers
    (λ r refused. closing_open c.args.algebra.now c.args.space.now c.going.rest.now c.in-Some.others.now c.in-Some.first.now
    c.going.invariant c.in-Some.ensures.cases.0 (Err r) refused))

pub going-preserved : goal.going-preserved
going-preserved c =
    closing_more c.args.algebra.now c.args.space.now c.going.rest.now c.in-Some.others.now c.in-Some.first.now c.going.invariant
    c.in-Some.ensures.cases.0 c.in_ok-commutes_with_each.ensures.answers c.in_ok-commutes_with_each.ensures.means

pub returns-clause-means : goal.returns-clause-means
returns-clause-means c = closing_end c.args.algebra.now c.args.space.now c.going.rest.now c.going.invariant c.in_default.ensures.cases
