use Rattle.ct_frac.specs.Arithmetic.{checked_fraction_difference}
use Rattle.ct_frac.proofs.SumLaws.{answers_ok, difference-value}
use Rattle.ct_frac.proofs.frac.Frac.sub.Goals as goal

pub returns-clause-value : goal.returns-clause-value
returns-clause-value c =
    answers_ok (checked_fraction_difference c.args.self.now c.args.other.now) c.difference.result _ c.difference.ensures
    (λ r made. difference-value c.args.self.now c.args.other.now r c.in_written_form.ensures c.in_written_form-2.ensures made)
