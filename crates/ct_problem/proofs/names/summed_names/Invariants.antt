use Rattle.ct_problem.proofs.Base.{◌≡◌, ◌<◌, ◌++◌, length, map, drop, All, name_with, summed_from, summed_of}
use Rattle.ct_problem.proofs.names.summed_names.Given as goal

abbrev pub invariant-loop-i : goal.invariant-loop-i
invariant-loop-i l = record {
  names : map name_with l.found.items ++ summed_from l.i (drop l.i l.algebra) ≡ summed_of l.algebra;
  known : All (λ k. k < length l.algebra) l.found.items;
}
