use Rattle.ct_reduce.proofs.ReductionEnds.{step_falls}
use Rattle.ct_reduce.proofs.laws.each_step_falls.Goals as goal

pub returns : goal.returns
returns c = step_falls
