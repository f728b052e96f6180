use Rattle.ct_algebra.proofs.SymbolLawProofs.{derivations}
use Rattle.ct_algebra.proofs.laws.derivation_is_the_derivative.Goals as goal

pub returns : goal.returns
returns c = derivations
