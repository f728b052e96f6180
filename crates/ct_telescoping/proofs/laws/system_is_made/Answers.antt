use Rattle.ct_telescoping.proofs.SupportLawProofs.{is_made}
use Rattle.ct_telescoping.proofs.laws.system_is_made.Goals as goal

pub returns : goal.returns
returns c = is_made
