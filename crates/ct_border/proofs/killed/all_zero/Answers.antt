use Rattle.ct_border.proofs.Base.{◌∙◌, sym}
use Rattle.ct_border.proofs.ZeroImages.{zeros_more}
use Rattle.ct_border.proofs.killed.all_zero.Goals as goal

pub going-preserved : goal.going-preserved
going-preserved c =
    zeros_more c.args.v.now c.going.rest.now c.in-Some.more.now c.in-Some.f.now c.going.invariant c.in-Some.ensures.cases.0
    (sym c.is_zero.ensures.steps ∙ c.if-not-is_zero.false) (c.is_zero.ensures.means.0 c.if-not-is_zero.false)
