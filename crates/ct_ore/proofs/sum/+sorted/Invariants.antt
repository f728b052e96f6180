use Rattle.ct_ore.proofs.Base.{length}
use Rattle.ct_ore.proofs.sum.+sorted.Given as goal

abbrev pub decreases-sorted : goal.decreases-sorted
decreases-sorted l = length l.ts.now
