use Rattle.ct_answer.proofs.Base.{◌≡◌, ◌+◌, ◌++◌, drop}
use Rattle.ct_answer.specs.Reductions.{cofactor_lines}
use Rattle.ct_answer.proofs.reductions.push_cofactors.Given as goal

-- what is written and what is left
abbrev pub invariant-loop-at : goal.invariant-loop-at
invariant-loop-at l =
    l.text.items ++ cofactor_lines l.algebra (l.at + 1) (drop l.at l.cofactors) ≡ l.initial.text.items ++ cofactor_lines l.algebra 1 l.cofactors
