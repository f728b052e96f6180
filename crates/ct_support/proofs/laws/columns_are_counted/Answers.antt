use Rattle.ct_support.proofs.MonomialsListed.{columns_counted}
use Rattle.ct_support.proofs.laws.columns_are_counted.Goals as goal

pub returns : goal.returns
returns c = columns_counted
