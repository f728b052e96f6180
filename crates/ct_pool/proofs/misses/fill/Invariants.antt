use Rattle.ct_pool.proofs.Base.{vec_len, ◌≡◌, length}
use Rattle.ct_pool.proofs.MissesInOrder.{Filling}
use Rattle.ct_pool.proofs.misses.fill.Given as goal

abbrev pub invariant-loop-index : goal.invariant-loop-index
invariant-loop-index g l = record {
  filling : Filling (g.J.Job.outcome l.job) l.fn.misses.items l.misses.items l.fn.slots.items l.slots.items;
  len : length l.slots.items ≡ length l.fn.slots.items;
}

abbrev pub decreases-loop-index : goal.decreases-loop-index
decreases-loop-index g l = vec_len l.misses
