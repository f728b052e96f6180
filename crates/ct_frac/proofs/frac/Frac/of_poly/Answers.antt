use Rattle.ct_frac.proofs.Base.{sym, ◌∙◌, ap, subst}
use Rattle.ct_frac.specs.Written.{IsWritten, value}
use Rattle.ct_frac.proofs.Fractions.{whole-value}
use Rattle.ct_frac.proofs.NormalLaws.{whole_written}
use Rattle.ct_frac.proofs.frac.Frac.of_poly.Goals as goal

pub invariant_of-result : goal.invariant_of-result
invariant_of-result c = subst (λ d. IsWritten (record { numerator = c.args.p; den = d })) (sym c.one.ensures) (whole_written c.args.p)

pub returns-clause-value : goal.returns-clause-value
returns-clause-value c = ap (λ d. value (record { numerator = c.args.p; den = d })) c.one.ensures ∙ whole-value c.args.p
