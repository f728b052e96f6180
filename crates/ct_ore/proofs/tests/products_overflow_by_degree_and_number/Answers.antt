use Rattle.ct_ore.proofs.Base.{ap, arith, total, total-unit}
use Rattle.ct_ore.proofs.tests.products_overflow_by_degree_and_number.Goals as goal

pub with_exp-requires-clause-within : goal.with_exp-requires-clause-within
with_exp-requires-clause-within g c = omega (arith, ap total c.one.ensures, total-unit)
