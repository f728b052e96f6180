use Rattle.ct_frac.specs.Arithmetic.{checked_cleared}
use Rattle.ct_frac.proofs.SumLaws.{answers_ok, cleared-value}
use Rattle.ct_frac.proofs.frac.Frac.clear.Goals as goal

pub returns-clause-value : goal.returns-clause-value
returns-clause-value c =
    answers_ok (checked_cleared c.args.self.now c.args.den.now) c.cleared.result _ c.cleared.ensures
    (λ n made. cleared-value c.args.self.now c.args.den.now n c.in_written_form.ensures c.in_written_form-2.ensures c.requires made)
