use Rattle.ct_pool.proofs.Base.{◌≡◌, vec_len, All}
use Rattle.ct_pool.proofs.schedules.move_all.Given as goal

abbrev pub invariant-loop-which : goal.invariant-loop-which
invariant-loop-which l = record {
  hands : All (λ hand. (hand.pass.table ≡ l.claims.table) × (hand.count ≡ l.claims.count)) l.hands.items;
  len : vec_len l.hands ≡ vec_len l.fn.hands;
}
