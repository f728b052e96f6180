use Rattle.std.proofs.Common.{◌∙◌}
use Rattle.ct_mono.proofs.Arrays.{eq_of_arrays}
use Rattle.ct_mono.proofs.monomial.MonomialPartialEq.eq.Goals as goal

pub returns : goal.returns
returns c =
    c.eq.ensures ∙ eq_of_arrays c.self.inside.exps c.other.inside.exps c.self.invariant.0 c.other.invariant.0
    c.self.view_is c.other.view_is
