use Rattle.ct_border.proofs.FormSteps.{form_is}
use Rattle.ct_border.proofs.laws.normal_forms_go_by_steps.Goals as goal

pub returns : goal.returns
returns c = form_is
