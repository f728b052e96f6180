use Rattle.std.proofs.Common.{sym}
use Rattle.ct_algebra.specs.Monomial.{exp-mono_of}
use Rattle.ct_mono.proofs.monomial.Monomial.exp.Goals as goal

pub returns : goal.returns
returns c = rw (← c.self.view_is) (sym (exp-mono_of _ _ c.requires))
