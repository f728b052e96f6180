use Rattle.ct_module.proofs.Base.{◌∙◌, ap, sym, name_with}
use Rattle.ct_frac.specs.Written.{value}
use Rattle.ct_ore.specs.Naming.{action_of}
use Rattle.ct_module.proofs.SymbolValues.{δ-shift, δ-still}
use Rattle.ct_module.proofs.kinds.delta.Goals as goal

pub returns-in_ok-zero-in-Shift-clause-value : goal.returns-in_ok-zero-in-Shift-clause-value
returns-in_ok-zero-in-Shift-clause-value c a known =
    c.in_ok-zero-in-Shift.ensures.value ∙ sym (δ-shift a (name_with c.args.i) (known ∙ ap action_of c.in-Shift.is) (value c.args.x.now))

pub returns-in_ok-zero-in-Still-clause-value : goal.returns-in_ok-zero-in-Still-clause-value
returns-in_ok-zero-in-Still-clause-value c a known =
    c.in_ok-zero-in-Still.ensures.value ∙ sym (δ-still a (name_with c.args.i) (known ∙ ap action_of c.in-Still.is) (value c.args.x.now))
