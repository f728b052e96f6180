use Rattle.ct_ore.proofs.Base.{◌≡◌, length}
use Rattle.ct_ore.specs.Measures.{checked_combination}
use Rattle.ct_ore.specs.Naming.{actions_of}
use Rattle.ct_ore.proofs.op.Op.with_products.Given as goal

abbrev pub invariant-combining : goal.invariant-combining
invariant-combining l = record {
  same : checked_combination (actions_of l.algebra) l.sum l.left l.right
      ≡ checked_combination (actions_of l.algebra) l.fn.self l.fn.cofactors l.fn.generators;
  long : length l.left ≡ length l.right;
}

abbrev pub decreases-combining : goal.decreases-combining
decreases-combining l = length l.left
