use Rattle.ct_problem.proofs.Base.{◌≡◌, ◌++◌, drop, namings_of, no_dens}
use Rattle.ct_problem.proofs.reading.den_lines.no_dens.Given as goal

abbrev pub invariant-loop-info : goal.invariant-loop-info
invariant-loop-info l = l.found ++ no_dens (namings_of (drop l._info-index l.names)) ≡ no_dens (namings_of l.names)
