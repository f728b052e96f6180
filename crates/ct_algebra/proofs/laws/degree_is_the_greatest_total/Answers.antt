use Rattle.ct_algebra.proofs.PolynomialLawProofs.{degrees}
use Rattle.ct_algebra.proofs.laws.degree_is_the_greatest_total.Goals as goal

pub returns : goal.returns
returns c = degrees
