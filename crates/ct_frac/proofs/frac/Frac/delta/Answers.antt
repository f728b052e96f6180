use Rattle.ct_frac.proofs.Base.{name_with}
use Rattle.ct_frac.specs.Symbols.{checked_delta}
use Rattle.ct_frac.proofs.DerivedFractions.{delta-value}
use Rattle.ct_frac.proofs.SumLaws.{answers_ok}
use Rattle.ct_frac.proofs.frac.Frac.delta.Goals as goal

pub returns-clause-value : goal.returns-clause-value
returns-clause-value c =
    answers_ok (checked_delta (name_with c.args.i) c.args.self.now) c.derived.result _ c.derived.ensures
    (λ r made. delta-value (name_with c.args.i) c.args.self.now r c.in_written_form.ensures made)
