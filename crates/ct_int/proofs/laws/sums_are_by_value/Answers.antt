use Rattle.ct_int.proofs.ValueLaws.{sums_by_value}
use Rattle.ct_int.proofs.laws.sums_are_by_value.Goals as goal

pub returns : goal.returns
returns c = sums_by_value
