use Rattle.ct_poly.proofs.Within.{products_within}
use Rattle.ct_poly.proofs.laws.products_are_within_measures.Goals as goal

pub returns : goal.returns
returns c = products_within
