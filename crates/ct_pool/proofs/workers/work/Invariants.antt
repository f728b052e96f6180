use Rattle.ct_pool.proofs.Base.{◌≡◌, ℕ, ◌+◌, ◌-◌, ◌<◌, ◌++◌, true, false, None, Some, Option, map, IfSome, list_of}
use Rattle.ct_pool.specs.Passes.{may_claim}
use Rattle.ct_pool.specs.Found.{AreMisses}
use Rattle.ct_pool.proofs.workers.work.Given as goal

-- a worker's claims rise, so the next one is at least this
abbrev pub floor_of : Option ℕ → ℕ
floor_of None = 0
floor_of (Some p) = p + 1

abbrev pub invariant-loop-index : goal.invariant-loop-index
invariant-loop-index g l = record {
  table : l.worker.pass.table ≡ l.claims.table;
  same : (l.worker.pass.table ≡ l.initial.worker.pass.table) × (l.worker.pass.number ≡ l.initial.worker.pass.number);
  ready : may_claim l.worker.pass.sight l.worker.pass.sight.pending ≡ true;
  none : (l.worker.hit ≡ None) × (l.worker.pass.sight.hit ≡ None) × (l.worker.starved ≡ false);
  numbers : map (λ p. p.0) l.worker.misses.items ≡ l.worker.pass.sight.refuted ++ list_of l.worker.pass.sight.pending;
  misses : AreMisses (g.J.Job.outcome l.job) l.worker.misses.items;
  below : IfSome l.worker.pass.sight.pending (λ p. p < l.claims.count);
}

abbrev pub decreases-loop-index : goal.decreases-loop-index
decreases-loop-index g l = l.claims.count - floor_of l.worker.pass.sight.pending
