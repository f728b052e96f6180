use Rattle.ct_ore.proofs.WholeDivisors.{gathers_start, gathers_more, gathers_to_one}
use Rattle.ct_ore.proofs.wholes.common_divisor_of_terms.Goals as goal

pub gathering-init : goal.gathering-init
gathering-init c = gathers_start c.args.ops.now c.args.n

pub returns-then-divisor-eq1 : goal.returns-then-divisor-eq1
returns-then-divisor-eq1 c =
    gathers_to_one c.if-divisor-eq1.true (gathers_more c.in-Some.ensures.cases.0 c.content.ensures.value c.gcd-divisor.ensures c.gathering.invariant)

pub gathering-preserved : goal.gathering-preserved
gathering-preserved c = gathers_more c.in-Some.ensures.cases.0 c.content.ensures.value c.gcd-divisor.ensures c.gathering.invariant
