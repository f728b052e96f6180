use Rattle.ct_poly.proofs.Base.{length}
use Rattle.ct_poly.proofs.Contents.{IsGathering}
use Rattle.ct_poly.proofs.content.content_of_terms.Given as goal

-- what divides the number so far and the rest of the coefficients divides all
abbrev pub invariant-gathering : goal.invariant-gathering
invariant-gathering l = IsGathering l.fn.ts l.divisor l.rest

abbrev pub decreases-gathering : goal.decreases-gathering
decreases-gathering l = length l.rest
