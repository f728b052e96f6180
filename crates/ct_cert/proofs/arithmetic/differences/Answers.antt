use Rattle.ct_cert.proofs.Base.{All-rest, actions_of}
use Rattle.ct_cert.specs.Certificates.{IsNamed}
use Rattle.ct_cert.proofs.Steps.{next_difference}
use Rattle.ct_cert.proofs.arithmetic.differences.Goals as goal

pub loop-part-preserved : goal.loop-part-preserved
loop-part-preserved c = record {
  same =
      next_difference (actions_of c.args.algebra.now) c.loop-part.sum c.in_ok-sum.sum c.in-Some.part.now c.in-Some.more.now
      c.loop-part.rest.now c.in-Some.ensures.cases.0 c.in_ok-sum.ensures c.loop-part.invariant.same;
  named =
      All-rest (IsNamed c.args.algebra.now) c.in-Some.part.now c.in-Some.more.now c.loop-part.rest.now
      c.in-Some.ensures.cases.0 c.loop-part.invariant.named;
}
