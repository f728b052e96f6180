use Rattle.ct_poly.proofs.PrimitiveParts.{common_is}
use Rattle.ct_poly.proofs.laws.common_monomial_is_greatest.Goals as goal

pub returns : goal.returns
returns c = common_is
