use Rattle.ct_frac.proofs.NormalLaws.{divided_out_is}
use Rattle.ct_frac.proofs.laws.factors_are_divided_out.Goals as goal

pub returns : goal.returns
returns c = divided_out_is
