use Rattle.ct_linsolve.proofs.DividedOut.{divides_out}
use Rattle.ct_linsolve.proofs.laws.slimming_divides_out.Goals as goal

pub returns : goal.returns
returns c = divides_out
