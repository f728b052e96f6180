use Rattle.ct_reduce.proofs.Base.{◌≡◌, ◌↔◌, IsTrue, subst}
use Rattle.ct_reduce.proofs.StepValues.{told_one}
use Rattle.ct_reduce.proofs.step.is_one.Goals as goal

pub returns : goal.returns
returns c =
    told_one c.args.p.now c.same.result (subst (λ q. IsTrue c.same.result ↔ (c.args.p.now ≡ q)) c.in_ok-one.ensures c.same.ensures)
