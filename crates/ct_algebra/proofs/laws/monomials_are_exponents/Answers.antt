use Rattle.ct_algebra.proofs.MonomialLawProofs.{exponents}
use Rattle.ct_algebra.proofs.laws.monomials_are_exponents.Goals as goal

pub returns : goal.returns
returns c = exponents
