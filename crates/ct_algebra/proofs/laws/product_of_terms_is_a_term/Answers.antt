use Rattle.ct_algebra.proofs.PolynomialLawProofs.{product_of_terms}
use Rattle.ct_algebra.proofs.laws.product_of_terms_is_a_term.Goals as goal

pub returns : goal.returns
returns c = product_of_terms
