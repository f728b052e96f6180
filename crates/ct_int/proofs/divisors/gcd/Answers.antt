use Rattle.ct_int.proofs.Base.{IsGcd-from_mod, IsGcd-from_zero}
use Rattle.ct_int.proofs.divisors.gcd.Goals as goal

pub steps-preserved : goal.steps-preserved
steps-preserved c = λ g h. c.steps.invariant g (IsGcd-from_mod c.steps.divisor c.steps.rest g h)

pub returns : goal.returns
returns c = c.steps.invariant c.steps.divisor (IsGcd-from_zero c.steps.divisor c.steps.rest c.steps-test.false)
