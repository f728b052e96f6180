use Rattle.ct_ore.proofs.Base.{◌∙◌, ap}
use Rattle.ct_ore.specs.Terms.{op_entries}
use Rattle.ct_ore.proofs.WrittenOperators.{terms_of}
use Rattle.ct_ore.proofs.op.Op.terms.Goals as goal

pub returns : goal.returns
returns c = ap op_entries c.as_slice.ensures.value ∙ terms_of c.self.inside.terms.items c.self.invariant.0 c.self.view_is
