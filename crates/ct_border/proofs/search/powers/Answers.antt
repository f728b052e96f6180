use Rattle.ct_border.proofs.Base.{◌<◌, ◌∙◌, All, All-tail, subst, sym}
use Rattle.ct_border.proofs.Powers.{powers_more}
use Rattle.ct_border.proofs.search.powers.Goals as goal

pub testing-preserved : goal.testing-preserved
testing-preserved c =
    let whole = c.in-Some.ensures.cases.0 in (
      c.testing.invariant.0
          ∙ powers_more c.args.leading.now c.in-Some.name.now c.in-Some.more.now c.testing.rest.now whole
          (sym c.has_power.ensures ∙ c.if-not-has_power.false),
      All-tail (λ i. i < 6) c.in-Some.name.now c.in-Some.more.now (subst (All (λ i. i < 6)) whole c.testing.invariant.1),
    )
