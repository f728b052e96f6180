use Rattle.ct_setup.proofs.Base.{◌≡◌, take, namings_of}
use Rattle.ct_setup.proofs.copies.copy_of.Given as goal

abbrev pub invariant-loop-info : goal.invariant-loop-info
invariant-loop-info l = namings_of l.names.items ≡ namings_of (take l.info-index l.infos)
