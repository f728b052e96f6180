use Rattle.ct_algebra.proofs.PolynomialLawProofs.{ring}
use Rattle.ct_algebra.proofs.laws.polynomials_are_a_ring.Goals as goal

pub returns : goal.returns
returns c = ring
