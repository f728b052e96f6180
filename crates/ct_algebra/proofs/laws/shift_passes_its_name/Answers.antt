use Rattle.ct_algebra.proofs.OperatorLawProofs.{shift_passes_its_name}
use Rattle.ct_algebra.proofs.laws.shift_passes_its_name.Goals as goal

pub returns : goal.returns
returns c = shift_passes_its_name
