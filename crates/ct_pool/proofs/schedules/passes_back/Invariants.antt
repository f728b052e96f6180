use Rattle.ct_pool.proofs.Base.{◌≡◌, ◌+◌, vec_len, All}
use Rattle.ct_pool.proofs.schedules.passes_back.Given as goal

abbrev pub invariant-loop-hand : goal.invariant-loop-hand
invariant-loop-hand l = record {
  size : vec_len l.passes + vec_len l.hands ≡ vec_len l.fn.hands;
  hands : All (λ hand. (hand.pass.table ≡ l.claims.table) × (hand.count ≡ l.claims.count)) l.hands.items;
  passes : All (λ pass. pass.table ≡ l.claims.table) l.passes.items;
}

abbrev pub decreases-loop-hand : goal.decreases-loop-hand
decreases-loop-hand l = vec_len l.hands
