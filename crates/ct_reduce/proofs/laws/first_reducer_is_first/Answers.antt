use Rattle.ct_reduce.proofs.FirstReducers.{first_is_first}
use Rattle.ct_reduce.proofs.laws.first_reducer_is_first.Goals as goal

pub returns : goal.returns
returns c = first_is_first
