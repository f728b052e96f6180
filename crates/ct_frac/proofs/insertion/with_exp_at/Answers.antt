use Rattle.ct_frac.proofs.Joining.{exponent_set-is}
use Rattle.ct_frac.proofs.insertion.with_exp_at.Goals as goal

pub returns : goal.returns
returns c = exponent_set-is c.args.factors.items c.args.place c.args.exp c.index_mut.result.now c.requires c.index_mut.ensures.value
