use Rattle.ct_frac.proofs.CommonDenominators.{divided_by_each}
use Rattle.ct_linsolve.proofs.kernel.all_cleared.Goals as goal

pub each_cleared-requires : goal.each_cleared-requires
each_cleared-requires c = (divided_by_each c.args.list.now c.in_ok-den.den c.requires c.in_ok-den.ensures).1
