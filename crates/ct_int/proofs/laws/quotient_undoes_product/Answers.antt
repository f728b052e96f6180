use Rattle.ct_int.proofs.ValueLaws.{quotient_and_product}
use Rattle.ct_int.proofs.laws.quotient_undoes_product.Goals as goal

pub returns : goal.returns
returns c = quotient_and_product
