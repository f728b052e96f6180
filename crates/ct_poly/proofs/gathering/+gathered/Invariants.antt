use Rattle.ct_poly.proofs.Base.{length}
use Rattle.ct_poly.proofs.gathering.+gathered.Given as goal

abbrev pub decreases-gathered : goal.decreases-gathered
decreases-gathered l = length l.ts.now
