use Rattle.ct_ore.proofs.Base.{◌*◌, ◌∙◌, ap, subst}
use Rattle.ct_ore.specs.Naming.{actions_of}
use Rattle.ct_ore.specs.Terms.{op_entries}
use Rattle.ct_ore.specs.PairMeasures.{coefficient_measure, symbols_measure}
use Rattle.ct_ore.specs.Bounds.{IsCapped}
use Rattle.ct_ore.proofs.PairMeasureLaws.{summing_start, summing_more, summing_ended}
use Rattle.ct_ore.proofs.PairSums.{together, together-cons, together-none, pairs_together}
use Rattle.ct_ore.proofs.measures.measure_of_pairs.Goals as goal

pub measuring-init : goal.measuring-init
measuring-init c = summing_start _

pub measuring-preserved : goal.measuring-preserved
measuring-preserved c =
    let a = actions_of c.args.algebra.now in
    let own = coefficient_measure c.args.weigh c.in-Some.p.now.coef in
    let made = symbols_measure a c.args.weigh c.in-Some.p.now.mono c.args.qs.now in
    summing_more c.capped_product-row.result (own * made) (together a c.args.weigh c.args.qs.now (op_entries c.in-Some.more.now))
    (ap (λ ps. together a c.args.weigh c.args.qs.now (op_entries ps)) c.in-Some.ensures.cases.0
    ∙ together-cons a c.args.weigh c.args.qs.now (c.in-Some.p.now.mono, c.in-Some.p.now.coef) (op_entries c.in-Some.more.now))
    c.measuring.invariant
    (c.capped_product-row.ensures own made c.measure_of_coefficient.ensures c.measure_of_symbols-made.ensures)
    c.capped_sum-sum.ensures

pub returns : goal.returns
returns c =
    let a = actions_of c.args.algebra.now in
    subst (λ v. IsCapped v c.measuring.sum) (pairs_together a c.args.weigh (op_entries c.args.ps.now) c.args.qs.now)
    (summing_ended c.measuring.invariant (together-none a c.args.weigh c.args.qs.now c.measuring.rest.now c.in_default.ensures.cases))
