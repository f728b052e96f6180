use Rattle.ct_module.proofs.Base.{length}
use Rattle.ct_ore.specs.Naming.{namings_of}
use Rattle.ct_module.proofs.DeclaredNames.{IsSeeking}
use Rattle.ct_module.proofs.names.free_names.Given as goal

abbrev pub invariant-seeking : goal.invariant-seeking
invariant-seeking l = IsSeeking l.algebra l.found.items l.i (namings_of l.rest)

abbrev pub decreases-seeking : goal.decreases-seeking
decreases-seeking l = length l.rest
