use Rattle.ct_border.proofs.Base.{◌≡◌, filter, name_with, actions_of, range_with_len, take}
use Rattle.ct_border.specs.Staircase.{acts}
use Rattle.ct_border.proofs.names.operator_numbers.Given as goal

abbrev pub invariant-loop-i : goal.invariant-loop-i
invariant-loop-i l = l.found.items ≡ filter (λ i. acts (actions_of l.algebra (name_with i))) (take l.i (range_with_len 0 6))
