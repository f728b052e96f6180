use Rattle.ct_border.proofs.Refused.{refusals_right}
use Rattle.ct_border.proofs.laws.refusals_are_right.Goals as goal

pub returns : goal.returns
returns c = refusals_right
