use Rattle.ct_pool.proofs.Base.{◌≡◌, ◌+◌, vec_len, All, fresh}
use Rattle.ct_pool.proofs.schedules.hands_of.Given as goal

abbrev pub invariant-loop-pass : goal.invariant-loop-pass
invariant-loop-pass l = record {
  size : vec_len l.hands + vec_len l.passes ≡ vec_len l.fn.passes;
  passes : All (λ pass. (pass.table ≡ l.claims.table) × (pass.sight ≡ fresh)) l.passes.items;
  hands : All (λ hand. (hand.pass.table ≡ l.claims.table) × (hand.count ≡ l.claims.count)) l.hands.items;
}

abbrev pub decreases-loop-pass : goal.decreases-loop-pass
decreases-loop-pass l = vec_len l.passes
