use Rattle.ct_poly.proofs.Base.{length}
use Rattle.ct_poly.proofs.Parts.{IsClearing}
use Rattle.ct_poly.proofs.part.without_names.Given as goal

abbrev pub invariant-clearing : goal.invariant-clearing
invariant-clearing l = IsClearing l.fn.names l.fn.mono l.others l.rest

abbrev pub decreases-clearing : goal.decreases-clearing
decreases-clearing l = length l.rest
