use Rattle.ct_problem.proofs.Base.{◌≡◌, ◌++◌, drop, namings_of, summed_texts}
use Rattle.ct_problem.proofs.reading.names.summed_texts.Given as goal

abbrev pub invariant-loop-info : goal.invariant-loop-info
invariant-loop-info l = l.texts ++ summed_texts (namings_of (drop l.info-index l.names)) ≡ summed_texts (namings_of l.names)
