use Rattle.ct_algebra.proofs.OperatorLawProofs.{has_unit}
use Rattle.ct_algebra.proofs.laws.product_has_unit.Goals as goal

pub returns : goal.returns
returns c = has_unit
