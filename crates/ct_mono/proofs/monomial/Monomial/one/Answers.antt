use Rattle.ct_algebra.proofs.MonomialLists.{mono_of-zeros}
use Rattle.ct_mono.proofs.monomial.Monomial.one.Goals as goal

pub returns : goal.returns
returns c = mono_of-zeros
