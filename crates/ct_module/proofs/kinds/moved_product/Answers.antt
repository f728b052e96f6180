use Rattle.ct_module.proofs.Base.{◌∙◌, ap, sym, field, name_with, IfOk-weaker}
use Rattle.ct_frac.specs.Written.{value}
use Rattle.ct_ore.specs.Naming.{action_of}
use Rattle.ct_module.proofs.SymbolValues.{σ-derive, σ-still}
use Rattle.ct_module.proofs.kinds.moved_product.Goals as goal

pub returns-in-Derive-clause-value : goal.returns-in-Derive-clause-value
returns-in-Derive-clause-value c =
    IfOk-weaker c.mul-in-Derive.result _ _
    (λ r is a known. is ∙ ap (λ u. field.◌*◌ u (value c.args.y.now))
    (sym (σ-derive a (name_with c.args.i) (known ∙ ap action_of c.in-Derive.is) (value c.args.x.now))))
    c.mul-in-Derive.ensures.value

pub returns-in-Still-clause-value : goal.returns-in-Still-clause-value
returns-in-Still-clause-value c =
    IfOk-weaker c.mul-in-Still.result _ _
    (λ r is a known. is ∙ ap (λ u. field.◌*◌ u (value c.args.y.now))
    (sym (σ-still a (name_with c.args.i) (known ∙ ap action_of c.in-Still.is) (value c.args.x.now))))
    c.mul-in-Still.ensures.value
