use Rattle.ct_telescoping.proofs.StaircaseLawProofs.{decide}
use Rattle.ct_telescoping.proofs.laws.image_decides_membership.Goals as goal

pub returns : goal.returns
returns c = decide
