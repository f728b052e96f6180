use Rattle.ct_frac.proofs.Base.{◌∙◌, ap, IfOk-weaker}
use Rattle.ct_frac.specs.Written.{value}
use Rattle.ct_frac.proofs.NormalLaws.{normal-value}
use Rattle.ct_frac.proofs.frac.Frac.over.Goals as goal

pub returns-clause-value : goal.returns-clause-value
returns-clause-value c =
    IfOk-weaker c.brought_to_normal.result _ _ (λ r is. ap value is ∙ normal-value c.args.n c.args.den.now c.in_written_form.ensures)
    c.brought_to_normal.ensures
