use Rattle.ct_telescoping.proofs.StaircaseLawProofs.{rows_are_determined}
use Rattle.ct_telescoping.proofs.laws.rows_are_determined.Goals as goal

pub returns : goal.returns
returns c = rows_are_determined
