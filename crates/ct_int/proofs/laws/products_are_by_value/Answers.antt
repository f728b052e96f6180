use Rattle.ct_int.proofs.ValueLaws.{products_by_value}
use Rattle.ct_int.proofs.laws.products_are_by_value.Goals as goal

pub returns : goal.returns
returns c = products_by_value
