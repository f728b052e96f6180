use Rattle.ct_problem.proofs.Base.{◌≡◌, take, namings_of}
use Rattle.ct_problem.proofs.reading.names_of.Given as goal

abbrev pub invariant-loop-info : goal.invariant-loop-info
invariant-loop-info l = namings_of l.variables.items ≡ namings_of (take l.info-index l.infos)
