use Rattle.ct_answer.proofs.Base.{◌≡◌, ◌+◌, ◌++◌, drop, map}
use Rattle.ct_reduce.specs.Views.{reduction_of}
use Rattle.ct_answer.specs.Reductions.{targets_lines}
use Rattle.ct_answer.proofs.reductions.push_targets.Given as goal

-- what is written and what is left
abbrev pub invariant-loop-at : goal.invariant-loop-at
invariant-loop-at l =
    l.text.items ++ targets_lines l.algebra (l.at + 1) (map reduction_of (drop l.at l.reductions))
    ≡ l.initial.text.items ++ targets_lines l.algebra 1 (map reduction_of l.reductions)
