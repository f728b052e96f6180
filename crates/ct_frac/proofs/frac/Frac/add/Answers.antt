use Rattle.ct_frac.specs.Arithmetic.{checked_fraction_sum}
use Rattle.ct_frac.proofs.SumLaws.{answers_ok, sum-value}
use Rattle.ct_frac.proofs.frac.Frac.add.Goals as goal

pub returns-clause-value : goal.returns-clause-value
returns-clause-value c =
    answers_ok (checked_fraction_sum c.args.self.now c.args.other.now) c.sum.result _ c.sum.ensures
    (λ r made. sum-value c.args.self.now c.args.other.now r c.in_written_form.ensures c.in_written_form-2.ensures made)
