use Rattle.ct_poly.proofs.Base.{leading}
use Rattle.ct_poly.specs.Division.{leading_rank}
use Rattle.ct_poly.specs.Terms.{entries}
use Rattle.ct_poly.proofs.DivisionLoop.{IsDivision}
use Rattle.ct_poly.proofs.poly.Poly.divide_by_steps.Given as goal

abbrev pub invariant-dividing : goal.invariant-dividing
invariant-dividing l = IsDivision l.self l.by l.rest.items l.quotient.items l.quotient_norm

abbrev pub decreases-dividing : goal.decreases-dividing
decreases-dividing l = leading_rank (leading (entries l.rest.items))
