use Rattle.ct_ore.proofs.Base.{◌∙◌, ap₂, sym, one_is, term_of}
use Rattle.ct_ore.proofs.op.Op.symbol.Goals as goal

pub returns : goal.returns
returns c =
    record { value = c.in_ok-r.ensures.value ∙ ap₂ term_of c.name-name.ensures (c.in_ok-one.ensures.value ∙ sym one_is) }
