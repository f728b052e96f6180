use Rattle.ct_pool.proofs.Base.{◌∙◌, sym, ap, arith}
use Rattle.ct_pool.proofs.RuleByRoot.{merges_key}
use Rattle.ct_pool.proofs.claims.Claims.take_back.Goals as goal

pub join_seat-requires : goal.join_seat-requires
join_seat-requires c =
    let same = ap (λ r. r.table) c.root.view_is ∙ c.requires.table.0 ∙ sym (ap (λ s. s.table) c.self.view_is) in
    let count_is = ap (λ r. r.count) c.root.view_is ∙ c.requires.count ∙ sym (ap (λ s. s.count) c.self.view_is) ∙ sym c.self.invariant.1 in
    let theirs = ap (λ p. p.table) c.pass.view_is ∙ c.requires.table.1 ∙ sym (ap (λ s. s.table) c.self.view_is) in (
      same,
      theirs,
      ap (λ m. m.1) c.pass.invariant.0,
      omega arith,
      merges_key c.self.inside.table.shared.key c.root.inside.seat.id c.pass.inside.seat.id c.root.inside.seat.me c.pass.inside.seat.me count_is
          c.root.invariant.0 c.pass.invariant.0 c.root.invariant.1,
    )
