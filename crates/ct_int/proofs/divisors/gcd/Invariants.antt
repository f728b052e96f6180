use Rattle.ct_int.proofs.Base.{ℕ, IsGcd}
use Rattle.ct_int.proofs.divisors.gcd.Given as goal

-- what divides both numbers of a step divides both of the first, and the other way round
abbrev pub invariant-steps : goal.invariant-steps
invariant-steps l = (g : ℕ) → IsGcd l.divisor l.rest g → IsGcd l.fn.a l.fn.b g

abbrev pub decreases-steps : goal.decreases-steps
decreases-steps l = l.rest
