use Rattle.ct_pool.proofs.Base.{◌≡◌, ◌+◌, vec_len, true, false, All, map, Each, has_ended}
use Rattle.ct_pool.specs.Found.{IsFound, AreFound, key_of, key_found}
use Rattle.ct_pool.proofs.first.results_of.Given as goal

abbrev pub invariant-loop-worker : goal.invariant-loop-worker
invariant-loop-worker g l = record {
  size : vec_len l.passes + vec_len l.team ≡ vec_len l.fn.team;
  team : All (λ w. (w.pass.table ≡ l.claims.table) × (w.starved ≡ false →
      IsFound (g.J.Job.outcome l.job) l.claims.count w.pass.sight w.misses.items w.hit)) l.team.items;
  table : All (λ pass. pass.table ≡ l.claims.table) l.passes.items;
  ended : Each (λ v. has_ended l.claims.count v ≡ true) (map (λ pass. pass.sight) l.passes.items);
  keys : map (λ f. key_found (f.0.items, f.1)) l.founds.items ≡ map key_of (map (λ pass. pass.sight) l.passes.items);
  found : Each (λ f. AreFound (g.J.Job.outcome l.job) (f.0.items, f.1)) l.founds.items;
}

abbrev pub decreases-loop-worker : goal.decreases-loop-worker
decreases-loop-worker g l = vec_len l.team
