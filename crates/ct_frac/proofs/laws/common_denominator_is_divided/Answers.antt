use Rattle.ct_frac.proofs.CommonDenominators.{divided_by_each}
use Rattle.ct_frac.proofs.laws.common_denominator_is_divided.Goals as goal

pub returns : goal.returns
returns c = divided_by_each
