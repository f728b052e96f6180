use Rattle.ct_ore.proofs.Base.{ap, arith, total, total-unit}
use Rattle.ct_ore.proofs.tests.products_overflow_by_the_count_of_pairs.Goals as goal

pub with_exp-requires-clause-within : goal.with_exp-requires-clause-within
with_exp-requires-clause-within g c = omega (arith, ap total c.one.ensures, total-unit)

pub with_exp-requires-2-clause-within : goal.with_exp-requires-2-clause-within
with_exp-requires-2-clause-within g c = omega (arith, ap total c.one-2.ensures, total-unit)

pub with_exp-requires-3-clause-within : goal.with_exp-requires-3-clause-within
with_exp-requires-3-clause-within g c = omega (arith, ap total c.one-3.ensures, total-unit)
