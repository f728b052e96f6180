use Rattle.ct_answer.proofs.Base.{◌≡◌, ◌++◌, drop}
use Rattle.ct_answer.specs.Text.{later_factors}
use Rattle.ct_answer.proofs.fraction.push_later_factors.Given as goal

abbrev pub invariant-loop-factor : goal.invariant-loop-factor
invariant-loop-factor l = l.out.items ++ later_factors l.algebra (drop l.factor-index l.factors) ≡ l.fn.out.items ++ later_factors l.algebra l.factors
