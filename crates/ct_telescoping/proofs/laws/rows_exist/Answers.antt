use Rattle.ct_telescoping.proofs.StaircaseLawProofs.{rows_exist}
use Rattle.ct_telescoping.proofs.laws.rows_exist.Goals as goal

pub returns : goal.returns
returns c = rows_exist
