use Rattle.ct_algebra.proofs.OperatorLawProofs.{derivation_passes_its_name}
use Rattle.ct_algebra.proofs.laws.derivation_passes_its_name.Goals as goal

pub returns : goal.returns
returns c = derivation_passes_its_name
