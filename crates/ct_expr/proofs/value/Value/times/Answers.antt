use Rattle.ct_expr.proofs.ValueArithmetic.{product_fits}
use Rattle.ct_expr.proofs.value.Value.times.Goals as goal

pub lowest-requires : goal.lowest-requires
lowest-requires c =
    let known = product_fits c.self.inside.whole c.other.inside.whole c.in_ok-whole.whole c.self.invariant.positive c.other.invariant.positive
    c.in_ok-whole.ensures in
    record { some = known.some; within = known.within }
