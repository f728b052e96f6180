use Rattle.ct_poly.proofs.Base.{arith}
use Rattle.ct_poly.proofs.MergedMultiples.{count_within, block_counted}
use Rattle.ct_poly.proofs.accumulation.number_above.Goals as goal

pub skipping-preserved : goal.skipping-preserved
skipping-preserved c = block_counted c.in-Some.more.now c.in-Some.ensures c.skipping.invariant

pub overflow_add-result : goal.overflow_add-result
overflow_add-result c =
    omega (arith, c.number_above_singly.ensures, count_within c.args.mono.now c.skipping.rest.now, c.skipping.invariant.lengths)

pub returns : goal.returns
returns c = omega (arith, c.number_above_singly.ensures, c.skipping.invariant.count)
