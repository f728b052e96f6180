use Rattle.ct_pool.proofs.Base.{◌∙◌, sym, ap, arith}
use Rattle.ct_pool.proofs.RuleByRoot.{least_key}
use Rattle.ct_pool.proofs.claims.Claims.least.Goals as goal

pub load-word-requires : goal.load-word-requires
load-word-requires c =
    let same = ap (λ r. r.table) c.root.view_is ∙ c.requires.table ∙ sym (ap (λ s. s.table) c.self.view_is) in
    let count_is = ap (λ r. r.count) c.root.view_is ∙ c.requires.count ∙ sym (ap (λ s. s.count) c.self.view_is) ∙ sym c.self.invariant.1 in (
      same,
      omega arith,
      least_key c.self.inside.table.shared.key c.self.inside.table.shared.table_id.slots c.root.inside.seat.id c.root.inside.seat.me
          count_is c.root.invariant.0 c.root.invariant.1,
    )
