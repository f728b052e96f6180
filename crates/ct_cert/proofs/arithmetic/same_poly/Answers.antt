use Rattle.ct_cert.proofs.Deciding.{decided, same_polynomial_decides}
use Rattle.ct_cert.proofs.arithmetic.same_poly.Goals as goal

pub returns : goal.returns
returns c = decided c.same.result _ c.same.ensures (same_polynomial_decides c.args.p.now c.args.q.now)
