use Rattle.ct_telescoping.proofs.SupportLawProofs.{is_empty}
use Rattle.ct_telescoping.proofs.laws.refuted_is_empty.Goals as goal

pub returns : goal.returns
returns c = is_empty
