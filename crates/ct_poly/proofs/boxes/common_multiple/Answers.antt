use Rattle.ct_poly.proofs.Base.{arith}
use Rattle.ct_poly.proofs.BoundingBoxes.{raising_start, raising_more, raising_all}
use Rattle.ct_poly.proofs.boxes.common_multiple.Goals as goal

pub loop-i-init : goal.loop-i-init
loop-i-init c = raising_start c.args.m.now c.args.n.now

pub loop-i-preserved : goal.loop-i-preserved
loop-i-preserved c = raising_more c.loop-i-test.true c.exponent.ensures.value c.in_ok-multiple.ensures c.loop-i.invariant

pub returns : goal.returns
returns c = raising_all (omega (arith, c.loop-i-test.false)) c.loop-i.invariant
