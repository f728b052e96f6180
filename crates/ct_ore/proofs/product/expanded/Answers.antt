use Rattle.ct_ore.proofs.Base.{◌∙◌, sym, ap, subst}
use Rattle.ct_ore.specs.AllNames.{number_of_names}
use Rattle.ct_ore.specs.Naming.{actions_of}
use Rattle.ct_ore.specs.PairTerms.{expanded_below, expanded}
use Rattle.ct_ore.specs.Bounds.{CanExpandBelow}
use Rattle.ct_ore.proofs.ProductBounds.{can_begin}
use Rattle.ct_ore.proofs.product.expanded.Goals as goal

pub expanded_below-requires-clause-can : goal.expanded_below-requires-clause-can
expanded_below-requires-clause-can c =
    subst (CanExpandBelow (actions_of c.args.algebra.now) number_of_names c.args.m.now) (sym c.in_ok-copy.ensures.items)
    (can_begin (actions_of c.args.algebra.now) c.args.m.now c.requires)

pub returns : goal.returns
unfolding expanded
returns c = c.in_ok-all.ensures ∙ ap (expanded_below (actions_of c.args.algebra.now) number_of_names c.args.m.now) c.in_ok-copy.ensures.items
