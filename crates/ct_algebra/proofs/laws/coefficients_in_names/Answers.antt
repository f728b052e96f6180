use Rattle.ct_algebra.proofs.CoefficientLawProofs.{coefficients_in_names}
use Rattle.ct_algebra.proofs.laws.coefficients_in_names.Goals as goal

pub returns : goal.returns
returns c = coefficients_in_names
