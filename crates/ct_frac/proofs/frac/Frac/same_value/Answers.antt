use Rattle.ct_frac.specs.Arithmetic.{checked_same_value}
use Rattle.ct_frac.proofs.SumLaws.{answers_ok, same_value_is}
use Rattle.ct_frac.proofs.frac.Frac.same_value.Goals as goal

pub returns-clause-value : goal.returns-clause-value
returns-clause-value c =
    answers_ok (checked_same_value c.args.self.now c.args.other.now) c.is_zero_difference.result _ c.is_zero_difference.ensures
    (λ b made. same_value_is c.args.self.now c.args.other.now b c.in_written_form.ensures c.in_written_form-2.ensures made)
