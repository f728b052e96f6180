use Rattle.ct_answer.proofs.Base.{◌≡◌, ◌++◌, drop}
use Rattle.ct_answer.specs.Text.{later_powers}
use Rattle.ct_answer.proofs.factors.push_later_powers.Given as goal

abbrev pub invariant-loop-power : goal.invariant-loop-power
invariant-loop-power l = l.out.items ++ later_powers l.algebra (drop l.power-index l.powers) ≡ l.fn.out.items ++ later_powers l.algebra l.powers
