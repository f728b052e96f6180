use Rattle.ct_reduce.proofs.Searching.{greatest_is_greatest}
use Rattle.ct_reduce.proofs.laws.greatest_reducible_is_greatest.Goals as goal

pub returns : goal.returns
returns c = greatest_is_greatest
