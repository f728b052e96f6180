use Rattle.ct_frac.proofs.Base.{name_with}
use Rattle.ct_frac.specs.Symbols.{checked_sigma}
use Rattle.ct_frac.proofs.ShiftedFactors.{sigma-value}
use Rattle.ct_frac.proofs.SumLaws.{answers_ok}
use Rattle.ct_frac.proofs.frac.Frac.sigma.Goals as goal

pub returns-clause-value : goal.returns-clause-value
returns-clause-value c =
    answers_ok (checked_sigma (name_with c.args.i) c.args.self.now) c.shifted.result _ c.shifted.ensures
    (λ r made. sigma-value (name_with c.args.i) c.args.self.now r c.in_written_form.ensures made)
