use Rattle.ct_algebra.proofs.TermLawProofs.{freedom_is_of_coefficients}
use Rattle.ct_algebra.proofs.laws.freedom_is_of_coefficients.Goals as goal

pub returns : goal.returns
returns c = freedom_is_of_coefficients
