use Rattle.ct_telescoping.proofs.StaircaseLawProofs.{suffice}
use Rattle.ct_telescoping.proofs.laws.tests_suffice.Goals as goal

pub returns : goal.returns
returns c = suffice
