use Rattle.ct_poly.proofs.Base.{◌∙◌, ap, arith}
use Rattle.ct_poly.specs.Accumulation.{count_above}
use Rattle.ct_poly.specs.Terms.{entries}
use Rattle.ct_poly.proofs.MergedMultiples.{count_within, counted_split}
use Rattle.ct_poly.proofs.accumulation.split_above.Goals as goal

pub split_at-requires : goal.split_at-requires
split_at-requires c = omega (arith, c.number_above.ensures, count_within c.args.mono.now c.args.p.now)

pub returns-clause-above : goal.returns-clause-above
returns-clause-above c =
    (counted_split c.args.mono.now c.split_at.result.0.now c.split_at.result.1.now (c.split_at.ensures.front_len ∙ c.number_above.ensures
    ∙ ap (λ w. count_above c.args.mono.now (entries w)) c.split_at.ensures.by_index.0)).above

pub returns-clause-below : goal.returns-clause-below
returns-clause-below c =
    (counted_split c.args.mono.now c.split_at.result.0.now c.split_at.result.1.now (c.split_at.ensures.front_len ∙ c.number_above.ensures
    ∙ ap (λ w. count_above c.args.mono.now (entries w)) c.split_at.ensures.by_index.0)).below
