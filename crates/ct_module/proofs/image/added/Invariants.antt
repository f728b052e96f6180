use Rattle.ct_module.proofs.Base.{length}
use Rattle.ct_module.proofs.Additions.{IsAdding}
use Rattle.ct_module.proofs.image.added.Given as goal

abbrev pub invariant-adding : goal.invariant-adding
invariant-adding l = IsAdding l.q l.sum l.v l.made.items l.left l.right

abbrev pub decreases-adding : goal.decreases-adding
decreases-adding l = length l.left
