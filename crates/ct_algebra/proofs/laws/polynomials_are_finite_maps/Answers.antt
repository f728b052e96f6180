use Rattle.ct_algebra.proofs.PolynomialLawProofs.{finite_maps}
use Rattle.ct_algebra.proofs.laws.polynomials_are_finite_maps.Goals as goal

pub returns : goal.returns
returns c = finite_maps
