use Rattle.ct_border.proofs.Base.{ap, arith, lit<, total, total_unit, total-with_exponent}
use Rattle.ct_border.proofs.tests.symbols.Goals as goal

pub with_exp-requires-clause-within : goal.with_exp-requires-clause-within
with_exp-requires-clause-within c = omega (arith, ap total c.one.ensures, total_unit, c.requires.first)

pub with_exp-requires-2-clause-within : goal.with_exp-requires-2-clause-within
with_exp-requires-2-clause-within c =
    omega (
      arith,
      ap total c.with_exp.ensures,
      total-with_exponent 0 c.args.n c.one.result (lit< tt),
      ap total c.one.ensures,
      total_unit,
      c.requires.first,
      c.requires.second,
    )
