use Rattle.ct_poly.proofs.CommonMonomials.{IsMeeting}
use Rattle.ct_poly.proofs.content.common_monomial_of.Given as goal

abbrev pub invariant-loop-i : goal.invariant-loop-i
invariant-loop-i l = IsMeeting l.fn.m l.fn.n l.least l.i
