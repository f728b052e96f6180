use Rattle.ct_poly.proofs.DivisionSteps.{step_falls}
use Rattle.ct_poly.proofs.laws.each_division_step_falls.Goals as goal

pub returns : goal.returns
returns c = step_falls
