use Rattle.ct_algebra.proofs.SymbolLawProofs.{shifts}
use Rattle.ct_algebra.proofs.laws.shift_replaces_its_name.Goals as goal

pub returns : goal.returns
returns c = shifts
