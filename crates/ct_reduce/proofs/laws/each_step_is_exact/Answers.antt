use Rattle.ct_reduce.proofs.StepIsExact.{exact_step}
use Rattle.ct_reduce.proofs.laws.each_step_is_exact.Goals as goal

pub returns : goal.returns
returns c = exact_step
