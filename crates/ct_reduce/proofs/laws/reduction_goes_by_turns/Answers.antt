use Rattle.ct_reduce.proofs.ReductionEnds.{reduction_is}
use Rattle.ct_reduce.proofs.laws.reduction_goes_by_turns.Goals as goal

pub returns : goal.returns
returns c = reduction_is
