use Rattle.ct_ore.proofs.Base.{◌≡◌, ◌-◌, suc, subst, sym, arith}
use Rattle.ct_ore.specs.Naming.{actions_of}
use Rattle.ct_ore.specs.Bounds.{CanExpandBelow}
use Rattle.ct_ore.proofs.ProductBounds.{can_raise, can_go_on}
use Rattle.ct_ore.proofs.product.+expanded_below.Goals as goal

pub raised_by-requires-clause-can : goal.raised_by-requires-clause-can
raised_by-requires-clause-can t c =
    let more : c.args.count ≡ suc (c.args.count - 1) = omega (arith, c.if-count-eq0.false) in
    can_raise (actions_of c.args.algebra.now) c.args.m.now (omega (arith, c.requires.known, more))
    (subst (λ n. CanExpandBelow (actions_of c.args.algebra.now) n c.args.m.now c.args.ts.items) more c.requires.can)

pub expanded_below-requires : goal.expanded_below-requires
expanded_below-requires t c =
    let more : c.args.count ≡ suc (c.args.count - 1) = omega (arith, c.if-count-eq0.false) in
    let can = subst (λ n. CanExpandBelow (actions_of c.args.algebra.now) n c.args.m.now c.args.ts.items) more c.requires.can in
    let next = can_go_on (actions_of c.args.algebra.now) c.args.m.now (omega (arith, c.requires.known, more)) can in
    let made = subst (CanExpandBelow (actions_of c.args.algebra.now) (c.args.count - 1) c.args.m.now) (sym c.in_ok-made.ensures) next in
    (omega (arith, c.decreases, more), (omega (arith, c.requires.known), made))
