use Rattle.ct_problem.proofs.Base.{◌≡◌, ◌≤◌, ◌+◌, length, drop, namings_of, summed_texts}
use Rattle.ct_problem.proofs.reading.names.summed_count.Given as goal

abbrev pub invariant-loop-info : goal.invariant-loop-info
invariant-loop-info l =
    record {
      so_far : l.count + length (summed_texts (namings_of (drop l.info-index l.names))) ≡ length (summed_texts (namings_of l.names));
      within : l.count ≤ l.info-index;
    }
