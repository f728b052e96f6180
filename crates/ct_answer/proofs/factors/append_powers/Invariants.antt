use Rattle.ct_answer.proofs.Base.{◌≡◌, ◌++◌}
use Rattle.ct_answer.specs.Text.{powers_in}
use Rattle.ct_answer.proofs.factors.append_powers.Given as goal

abbrev pub invariant-loop-name : goal.invariant-loop-name
invariant-loop-name l = l.powers.items ≡ l.fn.powers.items ++ powers_in l.is_symbol l.name l.m
