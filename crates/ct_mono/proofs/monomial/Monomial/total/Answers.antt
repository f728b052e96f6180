use Rattle.std.proofs.Common.{sym, ◌∙◌}
use Rattle.ct_algebra.specs.Monomial.{total-mono_of, sum_six}
use Rattle.ct_mono.proofs.monomial.Monomial.total.Goals as goal

pub returns-clause-value : goal.returns-clause-value
returns-clause-value c = rw (← c.self.view_is) (sum_six _ c.self.invariant.0 ∙ sym (total-mono_of _ c.self.invariant.0))
