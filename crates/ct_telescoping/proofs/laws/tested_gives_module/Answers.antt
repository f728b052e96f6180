use Rattle.ct_telescoping.proofs.StaircaseLawProofs.{gives_module}
use Rattle.ct_telescoping.proofs.laws.tested_gives_module.Goals as goal

pub returns : goal.returns
returns c = gives_module
