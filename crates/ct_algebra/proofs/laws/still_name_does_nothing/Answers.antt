use Rattle.ct_algebra.proofs.SymbolLawProofs.{still_names}
use Rattle.ct_algebra.proofs.laws.still_name_does_nothing.Goals as goal

pub returns : goal.returns
returns c = still_names
