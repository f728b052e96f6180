use Rattle.ct_expr.proofs.ValueArithmetic.{clears}
use Rattle.ct_expr.proofs.value.Value.cleared.Goals as goal

pub times_whole-requires : goal.times_whole-requires
times_whole-requires c =
    let known = clears c.self.inside.whole c.other.inside.whole c.in_ok-whole.whole c.self.invariant.positive c.other.invariant.positive
    c.in_ok-whole.ensures in
    record { some = known.first.some; within = known.first.within }

pub times_whole-requires-2 : goal.times_whole-requires-2
times_whole-requires-2 c =
    let known = clears c.self.inside.whole c.other.inside.whole c.in_ok-whole.whole c.self.invariant.positive c.other.invariant.positive
    c.in_ok-whole.ensures in
    record { some = known.second.some; within = known.second.within }

pub returns-clause-fits : goal.returns-clause-fits
returns-clause-fits c =
    let known = clears c.self.inside.whole c.other.inside.whole c.in_ok-whole.whole c.self.invariant.positive c.other.invariant.positive
    c.in_ok-whole.ensures in
    (known.itself.some, known.itself.within)
