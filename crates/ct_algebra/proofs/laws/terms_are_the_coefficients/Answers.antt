use Rattle.ct_algebra.proofs.TermLawProofs.{terms_are_coefficients}
use Rattle.ct_algebra.proofs.laws.terms_are_the_coefficients.Goals as goal

pub returns : goal.returns
returns c = terms_are_coefficients
