use Rattle.ct_frac.proofs.Base.{◌≡◌, sym, ◌∙◌, ap, subst, rules}
use Rattle.ct_frac.specs.Arithmetic.{negative}
use Rattle.ct_frac.specs.Written.{IsWritten, value}
use Rattle.ct_frac.proofs.Fractions.{negative_written, negative-value}
use Rattle.ct_frac.proofs.frac.Frac.neg.Goals as goal

pub invariant_of-result : goal.invariant_of-result
invariant_of-result c =
    let made : record { numerator = c.in_ok-numerator.numerator; den = c.in_ok-den.den } ≡ negative c.args.self.now = search rules in
    subst IsWritten (sym made) (negative_written c.args.self.now c.in_written_form.ensures)

pub returns-clause-value : goal.returns-clause-value
returns-clause-value c =
    let made : record { numerator = c.in_ok-numerator.numerator; den = c.in_ok-den.den } ≡ negative c.args.self.now = search rules in
    ap value made ∙ negative-value c.args.self.now c.in_written_form.ensures
