use Rattle.ct_ore.proofs.Base.{arith}
use Rattle.ct_ore.proofs.PairMeasureLaws.{exp-le-total}
use Rattle.ct_ore.proofs.degrees.small_exponent.Goals as goal

pub returns-clause-within : goal.returns-clause-within
returns-clause-within c =
    omega (arith, c.exp.ensures, c.total-total.ensures.value, c.total-total.ensures.within, exp-le-total c.args.m.now c.args.i c.requires)
