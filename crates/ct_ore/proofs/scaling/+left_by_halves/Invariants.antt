use Rattle.ct_ore.proofs.Base.{length}
use Rattle.ct_ore.proofs.scaling.+left_by_halves.Given as goal

abbrev pub decreases-left_by_halves : goal.decreases-left_by_halves
decreases-left_by_halves l = length l.us.now
