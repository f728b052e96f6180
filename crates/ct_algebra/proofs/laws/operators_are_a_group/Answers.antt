use Rattle.ct_algebra.proofs.OperatorLawProofs.{group}
use Rattle.ct_algebra.proofs.laws.operators_are_a_group.Goals as goal

pub returns : goal.returns
returns c = group
