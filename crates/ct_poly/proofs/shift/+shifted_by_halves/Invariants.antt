use Rattle.ct_poly.proofs.Base.{length}
use Rattle.ct_poly.proofs.shift.+shifted_by_halves.Given as goal

abbrev pub decreases-shifted_by_halves : goal.decreases-shifted_by_halves
decreases-shifted_by_halves l = length l.ts.now
