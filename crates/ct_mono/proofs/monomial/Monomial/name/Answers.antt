use Rattle.std.proofs.Common.{◌∙◌, ap, arith}
use Rattle.ct_algebra.specs.Monomial.{total}
use Rattle.ct_mono.specs.Exponents.{with_exponent}
use Rattle.ct_mono.proofs.ExponentLaws.{one_exponent, total-unit}
use Rattle.ct_mono.proofs.monomial.Monomial.name.Goals as goal

pub with_exp-requires-clause-within : goal.with_exp-requires-clause-within
with_exp-requires-clause-within c = omega (arith, ap total c.one.ensures, total-unit)

pub returns : goal.returns
returns c = c.with_exp.ensures ∙ ap (with_exponent c.args.i 1) c.one.ensures ∙ one_exponent c.args.i c.requires
