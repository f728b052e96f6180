use Rattle.ct_telescoping.proofs.SupportLawProofs.{certify}
use Rattle.ct_telescoping.proofs.laws.assembly_certifies.Goals as goal

pub returns : goal.returns
returns c = certify
