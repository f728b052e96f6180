use Rattle.ct_poly.proofs.Base.{length}
use Rattle.ct_poly.proofs.GatheredTerms.{IsComparing}
use Rattle.ct_poly.proofs.gathering.is_falling.Given as goal

abbrev pub invariant-comparing : goal.invariant-comparing
invariant-comparing l = IsComparing l.fn.ts l.last l.rest

abbrev pub decreases-comparing : goal.decreases-comparing
decreases-comparing l = length l.rest
