use Rattle.ct_ore.proofs.Base.{length}
use Rattle.ct_ore.proofs.scaling.+right_by_halves.Given as goal

abbrev pub decreases-right_by_halves : goal.decreases-right_by_halves
decreases-right_by_halves l = length l.ts.now
