use Rattle.ct_problem.proofs.Base.{◌≡◌, ◌≤◌, ◌+◌, drop, has_operator, namings_of}
use Rattle.std.proofs.Common.{count_by}
use Rattle.ct_problem.proofs.reading.names.operator_count.Given as goal

abbrev pub invariant-loop-info : goal.invariant-loop-info
invariant-loop-info l =
    record {
      so_far : l.count + count_by has_operator (namings_of (drop l.info-index l.names)) ≡ count_by has_operator (namings_of l.names);
      within : l.count ≤ l.info-index;
    }
