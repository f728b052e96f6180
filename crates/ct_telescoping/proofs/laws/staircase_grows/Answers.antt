use Rattle.ct_telescoping.proofs.StaircaseLawProofs.{staircase_grows}
use Rattle.ct_telescoping.proofs.laws.staircase_grows.Goals as goal

pub returns : goal.returns
returns c = staircase_grows
