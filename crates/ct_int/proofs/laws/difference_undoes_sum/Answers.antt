use Rattle.ct_int.proofs.ValueLaws.{difference_and_sum}
use Rattle.ct_int.proofs.laws.difference_undoes_sum.Goals as goal

pub returns : goal.returns
returns c = difference_and_sum
