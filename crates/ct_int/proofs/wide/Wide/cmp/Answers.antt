use Rattle.ct_int.proofs.WideProducts.{nat_cmp-halves, whole}
use Rattle.ct_int.proofs.wide.Wide.cmp.Goals as goal

pub returns-in_default : goal.returns-in_default
returns-in_default c =
    rw (← c.self.view_is, ← c.other.view_is)
    (nat_cmp-halves c.self.inside.high c.other.inside.high c.self.inside.low c.other.inside.low whole c.self.invariant c.other.invariant c.cmp.result
    c.cmp.ensures c.in_default.not-Equal)
