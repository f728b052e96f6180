use Rattle.ct_frac.proofs.Base.{sym, ◌∙◌, ap, pos, unit, divided, content_is}
use Rattle.ct_poly.proofs.WholeDivisors.{divided_by_one}
use Rattle.ct_frac.proofs.whole.divided_by_number.Goals as goal

pub returns-then-divisor-eq1 : goal.returns-then-divisor-eq1
returns-then-divisor-eq1 c = sym (ap (λ k. divided unit (pos k) c.args.p) c.if-divisor-eq1.true ∙ divided_by_one c.args.p)

pub over_whole-requires-clause-divides : goal.over_whole-requires-clause-divides
over_whole-requires-clause-divides c = (content_is c.args.p c.args.divisor).0 c.requires.divides
