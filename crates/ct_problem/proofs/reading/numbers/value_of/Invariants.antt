use Rattle.ct_problem.proofs.Base.{◌≡◌, ◌≤◌, ◌+◌, take, largest_norm, value_of}
use Rattle.ct_problem.proofs.reading.numbers.value_of.Given as goal

abbrev pub invariant-loop-b : goal.invariant-loop-b
invariant-loop-b l = (l.n ≡ value_of (take l.b-index l.digits)) × (l.n ≤ largest_norm + 1)
