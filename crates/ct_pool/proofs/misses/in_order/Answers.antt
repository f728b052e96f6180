use Rattle.ct_pool.proofs.Base.{length, ◌∙◌, ap, None, ◌++◌, ◌∷◌, []}
use Rattle.ct_pool.proofs.MissesInOrder.{orders, next_at}
use Rattle.ct_pool.proofs.misses.in_order.Goals as goal

pub loop-slot-preserved : goal.loop-slot-preserved
loop-slot-preserved g c =
    orders (g.J.Job.outcome c.args.job.now) c.args.slots.items c.loop-slot.misses.items c.push.new.self.items c.loop-slot.slots.items
    c.pop.new.self.items c.in-Some-slot.miss c.requires.slots (c.in-Some.ensures.items
    ∙ ap (λ o. c.pop.new.self.items ++ o ∷ []) c.in-Some-slot.is) c.in_ok-push-in-Some-slot.ensures.items c.loop-slot.invariant

pub unreachable-requires : goal.unreachable-requires
unreachable-requires g c =
    absurd (c.requires.full (length c.loop-slot.misses.items)
    (next_at (g.J.Job.outcome c.args.job.now) c.args.slots.items c.loop-slot.misses.items c.loop-slot.slots.items c.pop.new.self.items None
    (c.in-Some.ensures.items ∙ ap (λ o. c.pop.new.self.items ++ o ∷ []) c.in-None.is) c.loop-slot.invariant))
