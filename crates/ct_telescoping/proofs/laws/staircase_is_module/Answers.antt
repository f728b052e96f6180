use Rattle.ct_telescoping.proofs.StaircaseLawProofs.{is_module}
use Rattle.ct_telescoping.proofs.laws.staircase_is_module.Goals as goal

pub returns : goal.returns
returns c = is_module
