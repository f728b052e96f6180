use Rattle.ct_ore.proofs.Base.{◌∙◌, sym, name_with, exp}
use Rattle.ct_ore.specs.Naming.{actions_of}
use Rattle.ct_ore.proofs.Expansion.{raised_none}
use Rattle.ct_ore.proofs.product.raised_by.Goals as goal

pub returns-then-k-eq0 : goal.returns-then-k-eq0
returns-then-k-eq0 c =
    sym (raised_none (actions_of c.args.algebra.now (name_with c.args.i)) c.args.i (exp c.args.m.now c.args.i)
    (sym c.small_exponent-k.ensures.value ∙ c.if-k-eq0.true) c.args.ts.items)
