use Rattle.ct_reduce.proofs.Base.{◌∙◌, sym, IfOk-weaker}
use Rattle.ct_algebra.specs.Substitution.{one_is}
use Rattle.ct_reduce.proofs.step.one.Goals as goal

pub returns : goal.returns
returns c = IfOk-weaker c.constant.result _ _ (λ p value. value ∙ sym one_is) c.constant.ensures.value
