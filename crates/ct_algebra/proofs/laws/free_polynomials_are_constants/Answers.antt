use Rattle.ct_algebra.proofs.SymbolLawProofs.{free_polynomials}
use Rattle.ct_algebra.proofs.laws.free_polynomials_are_constants.Goals as goal

pub returns : goal.returns
returns c = free_polynomials
