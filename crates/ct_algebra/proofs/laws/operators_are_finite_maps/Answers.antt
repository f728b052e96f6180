use Rattle.ct_algebra.proofs.OperatorLawProofs.{finite_maps}
use Rattle.ct_algebra.proofs.laws.operators_are_finite_maps.Goals as goal

pub returns : goal.returns
returns c = finite_maps
