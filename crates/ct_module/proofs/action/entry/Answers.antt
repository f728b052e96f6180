use Rattle.ct_module.proofs.Base.{◌≡◌, ◌∙◌, ap, ap₂, sym, get_or_default, name_with, field, coefficients, IfOk-weaker}
use Rattle.ct_frac.specs.Written.{value}
use Rattle.ct_module.specs.Modules.{entry, written_zero}
use Rattle.ct_module.proofs.action.entry.Goals as goal

pub returns-clause-value : goal.returns-clause-value
returns-clause-value c =
    let at : c.index-v-element.result ≡ entry c.args.v.now c.args.element =
    c.index-v-element.is ∙ get_or_default c.args.v.now c.args.element c.index-v-element.result written_zero c.requires.in_range in
    IfOk-weaker c.add.result _ _
    (λ r is a known. is ∙ ap₂ field.◌+◌ (c.in_ok-sum.ensures.value a known)
    (c.in_ok-derivative.ensures.value a known ∙ ap (λ w. (coefficients a).δ (name_with c.args.i) (value w)) at))
    c.add.ensures.value
