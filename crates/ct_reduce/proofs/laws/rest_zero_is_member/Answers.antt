use Rattle.ct_reduce.proofs.StepsKeepIdentity.{zero_is_member}
use Rattle.ct_reduce.proofs.laws.rest_zero_is_member.Goals as goal

pub returns : goal.returns
returns c = zero_is_member
