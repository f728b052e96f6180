use Rattle.ct_telescoping.proofs.SupportLawProofs.{is_free}
use Rattle.ct_telescoping.proofs.laws.system_is_free_of_summed.Goals as goal

pub returns : goal.returns
returns c = is_free
