use Rattle.ct_int.proofs.CommonDivisors.{greatest_common_is}
use Rattle.ct_int.proofs.laws.greatest_common_is_gcd.Goals as goal

pub returns : goal.returns
returns c = greatest_common_is
