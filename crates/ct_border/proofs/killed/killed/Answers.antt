use Rattle.ct_border.proofs.Base.{◌∙◌, ap, subst, sym, actions_of}
use Rattle.ct_algebra.specs.FreeOf.{IsOver}
use Rattle.ct_border.specs.Build.{all_zero}
use Rattle.ct_border.proofs.ZeroImages.{AreZero, killing_end, killing_more, killing_over, not_killed}
use Rattle.ct_border.proofs.killed.killed.Goals as goal

pub image-requires-clause-operators : goal.image-requires-clause-operators
image-requires-clause-operators c =
    killing_over c.args.algebra.now c.args.space.now c.args.generators.now c.going.number c.going.rest.now c.in-Some.more.now
    c.in-Some.generator.now c.going.invariant c.in-Some.ensures.cases.0 (IsOver (actions_of c.args.algebra.now)) c.requires.operators

pub returns-then-not-all_zero-clause-refused : goal.returns-then-not-all_zero-clause-refused
returns-then-not-all_zero-clause-refused c =
    not_killed c.args.algebra.now c.args.space.now c.args.generators.now c.going.number c.going.rest.now c.in-Some.more.now
    c.in-Some.generator.now c.going.invariant c.in-Some.ensures.cases.0 c.start.result.now c.in_ok-image.image.items c.start.ensures
    c.requires.start c.in_ok-image.ensures.steps c.in_ok-image.ensures.size c.in_ok-image.ensures.means
    (λ zero. let yes = c.all_zero.ensures.means.1 (subst AreZero (sym c.as_slice.ensures.value) zero) in let no = c.if-not-all_zero.true in cc)

pub going-preserved : goal.going-preserved
going-preserved c =
    killing_more c.args.algebra.now c.args.space.now c.args.generators.now c.going.number c.going.rest.now c.in-Some.more.now
    c.in-Some.generator.now c.going.invariant c.in-Some.ensures.cases.0 c.start.result.now c.in_ok-image.image.items c.start.ensures
    c.requires.start c.in_ok-image.ensures.steps c.in_ok-image.ensures.size c.in_ok-image.ensures.means
    (ap all_zero (sym c.as_slice.ensures.value) ∙ sym c.all_zero.ensures.steps ∙ c.if-not-all_zero.false)
    (subst AreZero c.as_slice.ensures.value (c.all_zero.ensures.means.0 c.if-not-all_zero.false))

pub returns-clause-means : goal.returns-clause-means
returns-clause-means c =
    killing_end c.args.algebra.now c.args.space.now c.args.generators.now c.going.number c.going.rest.now c.going.invariant c.in_default.ensures.cases
