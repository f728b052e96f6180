use Rattle.ct_telescoping.proofs.SupportLawProofs.{system_is_determined}
use Rattle.ct_telescoping.proofs.laws.system_is_determined.Goals as goal

pub returns : goal.returns
returns c = system_is_determined
