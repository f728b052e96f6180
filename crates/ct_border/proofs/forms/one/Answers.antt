use Rattle.ct_border.proofs.Base.{◌∙◌, sym}
use Rattle.std.proofs.lemmas.Result.{IfOk-weaker}
use Rattle.ct_algebra.specs.Substitution.{one_is}
use Rattle.ct_border.proofs.forms.one.Goals as goal

pub returns : goal.returns
returns c = IfOk-weaker c.constant.result _ _ (λ p value. value ∙ sym one_is) c.constant.ensures.value
