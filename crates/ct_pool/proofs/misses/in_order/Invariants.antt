use Rattle.ct_pool.proofs.Base.{vec_len}
use Rattle.ct_pool.proofs.MissesInOrder.{Ordered}
use Rattle.ct_pool.proofs.misses.in_order.Given as goal

abbrev pub invariant-loop-slot : goal.invariant-loop-slot
invariant-loop-slot g l = Ordered (g.J.Job.outcome l.job) l.fn.slots.items l.misses.items l.slots.items

abbrev pub decreases-loop-slot : goal.decreases-loop-slot
decreases-loop-slot g l = vec_len l.slots
