use Rattle.ct_frac.proofs.CommonDenominators.{divides_common}
use Rattle.ct_frac.proofs.laws.common_denominator_is_least.Goals as goal

pub returns : goal.returns
returns c = divides_common
