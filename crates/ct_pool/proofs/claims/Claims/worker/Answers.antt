use Rattle.ct_pool.proofs.Base.{◌<◌, ◌∙◌, sym, ap, subst, arith}
use Rattle.ct_pool.specs.Passes.{RootView}
use Rattle.ct_pool.proofs.RuleByRoot.{splits_key}
use Rattle.ct_pool.proofs.claims.Claims.worker.Goals as goal

pub split_seat-seat-requires : goal.split_seat-seat-requires
split_seat-seat-requires c =
    let same = ap (λ r. r.table) c.root.view_is ∙ c.requires.table ∙ sym (ap (λ s. s.table) c.self.view_is) in
    let count_is = ap (λ r. r.count) c.root.view_is ∙ c.requires.count ∙ sym (ap (λ s. s.count) c.self.view_is) ∙ sym c.self.invariant.1 in
    let room : c.root.inside.seat.me.0.made < 16 = (let P : RootView → Type 0 = λ r. r.made < 16 in subst P (sym c.root.view_is) c.requires.room) in (
      same,
      omega arith,
      splits_key c.self.inside.table.shared.key c.root.inside.seat.id c.root.inside.seat.me count_is c.root.invariant.0
          c.root.invariant.1 room,
    )
