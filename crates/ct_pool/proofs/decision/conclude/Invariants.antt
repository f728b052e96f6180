use Rattle.ct_pool.proofs.Base.{vec_len, map}
use Rattle.ct_pool.proofs.Conclusion.{Concluding}
use Rattle.ct_pool.proofs.decision.conclude.Given as goal

abbrev pub invariant-loop-misses : goal.invariant-loop-misses
invariant-loop-misses g l = Concluding (g.J.Job.outcome l.job) l.count l.least l.slots.items l.best (map (λ f. (f.0.items, f.1)) l.founds.items)

abbrev pub decreases-loop-misses : goal.decreases-loop-misses
decreases-loop-misses g l = vec_len l.founds
