use Rattle.ct_int.proofs.CommonMultiples.{least_common_least}
use Rattle.ct_int.proofs.laws.least_common_is_least.Goals as goal

pub returns : goal.returns
returns c = least_common_least
