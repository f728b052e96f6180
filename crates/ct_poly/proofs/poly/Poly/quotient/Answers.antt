use Rattle.ct_poly.proofs.Base.{sym, ap, subst, Err, Answers}
use Rattle.ct_poly.specs.Division.{checked_quotient, quotient, value_or_none}
use Rattle.ct_poly.proofs.DivisionLaws.{some_quotient}
use Rattle.ct_poly.proofs.poly.Poly.quotient.Goals as goal

pub returns-in-Ok-clause-value : goal.returns-in-Ok-clause-value
unfolding quotient
returns-in-Ok-clause-value c = sym (ap value_or_none c.in-Ok.ensures)

pub returns-in-Ok-clause-divides : goal.returns-in-Ok-clause-divides
returns-in-Ok-clause-divides c = some_quotient c.args.self.now c.args.by.now c.in-Ok.found c.in-Ok.ensures

pub returns-in-Err-Overflow-clause-value : goal.returns-in-Err-Overflow-clause-value
unfolding quotient
returns-in-Err-Overflow-clause-value c =
    sym (ap value_or_none
    (subst (λ e. Answers (checked_quotient c.args.self.now c.args.by.now) (Err e)) c.in-Err-Overflow.field-0-is c.in-Err-Overflow.ensures))
