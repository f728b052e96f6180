use Rattle.ct_pool.proofs.Base.{◌≡◌, ◌+◌, [], vec_len, None, false, All, fresh}
use Rattle.ct_pool.proofs.first.team_of.Given as goal

abbrev pub invariant-loop-pass : goal.invariant-loop-pass
invariant-loop-pass g l = record {
  size : vec_len l.team + vec_len l.passes ≡ vec_len l.fn.passes;
  passes : All (λ pass. (pass.table ≡ l.claims.table) × (pass.sight ≡ fresh)) l.passes.items;
  team : All (λ w. (w.pass.table ≡ l.claims.table) × (w.pass.sight ≡ fresh) × (w.misses.items ≡ []) × (w.hit ≡ None) × (w.starved ≡ false))
      l.team.items;
}

abbrev pub decreases-loop-pass : goal.decreases-loop-pass
decreases-loop-pass g l = vec_len l.passes
