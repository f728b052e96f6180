use Rattle.ct_cert.proofs.Deciding.{decided, same_operator_decides}
use Rattle.ct_cert.proofs.arithmetic.same_op.Goals as goal

pub returns : goal.returns
returns c = decided c.same.result _ c.same.ensures (same_operator_decides c.args.p.now c.args.q.now)
