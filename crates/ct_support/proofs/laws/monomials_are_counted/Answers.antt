use Rattle.ct_support.proofs.MonomialsListed.{counted}
use Rattle.ct_support.proofs.laws.monomials_are_counted.Goals as goal

pub returns : goal.returns
returns c = counted
