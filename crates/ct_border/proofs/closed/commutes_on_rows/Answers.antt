use Rattle.ct_border.proofs.Base.{◌∙◌, ap, arith, length, Ok, Err, IfSome_then, err_from_is_err_and}
use Rattle.std.proofs.Common.{below_more}
use Rattle.ct_border.specs.BuildViews.{build_refusal_of}
use Rattle.ct_border.proofs.CommutingRows.{rows_open}
use Rattle.ct_border.proofs.closed.commutes_on_rows.Goals as goal

pub returns-in_err-commutes-clause-answers : goal.returns-in_err-commutes-clause-answers
returns-in_err-commutes-clause-answers c =
    let exit = err_from_is_err_and c.from_residual.result c.from_residual.ensures.1 in
    rw (exit.1, exit.2) (IfSome_then (build_refusal_of c.in_err-commutes.field-0.0) c.in_err-commutes.ensures.answers
    (λ r refused. c.going.invariant.0
    ∙ rows_open c.args.algebra.now c.args.space.now (c.args.first, c.args.second) c.going.element
    (omega (arith, c.going-test.true, ap length c.basis-element-end.ensures)) (Err r) refused))

pub going-preserved : goal.going-preserved
going-preserved c = (
  c.going.invariant.0
      ∙ rows_open c.args.algebra.now c.args.space.now (c.args.first, c.args.second) c.going.element
      (omega (arith, c.going-test.true, ap length c.basis-element-end.ensures)) (Ok tt) c.in_ok-commutes.ensures.answers,
  below_more _ _ c.going.invariant.1 c.in_ok-commutes.ensures.means,
)
