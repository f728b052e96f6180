use Rattle.ct_algebra.proofs.SymbolLawProofs.{respect_the_ring}
use Rattle.ct_algebra.proofs.laws.symbols_respect_the_ring.Goals as goal

pub returns : goal.returns
returns c = respect_the_ring
