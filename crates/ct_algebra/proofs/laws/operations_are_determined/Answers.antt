use Rattle.ct_algebra.proofs.DeterminedProofs.{determined}
use Rattle.ct_algebra.proofs.laws.operations_are_determined.Goals as goal

pub returns : goal.returns
returns c = determined
