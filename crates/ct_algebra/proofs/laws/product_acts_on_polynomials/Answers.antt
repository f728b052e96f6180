use Rattle.ct_algebra.proofs.OperatorLawProofs.{acts_on_polynomials}
use Rattle.ct_algebra.proofs.laws.product_acts_on_polynomials.Goals as goal

pub returns : goal.returns
returns c = acts_on_polynomials
