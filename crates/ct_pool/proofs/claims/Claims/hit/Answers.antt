use Rattle.ct_pool.proofs.Base.{◌≡◌, ◌∙◌, sym, ap, subst, true, arith, Option, ℕ, some_and, may_end}
use Rattle.ct_pool.specs.Passes.{PassView, may_hit}
use Rattle.ct_pool.proofs.RuleByWorkers.{hits_as}
use Rattle.ct_pool.proofs.claims.Claims.hit.Goals as goal

pub fetch_min-requires : goal.fetch_min-requires
fetch_min-requires c =
    let same = ap (λ p. p.table) c.pass.view_is ∙ c.requires.table ∙ sym (ap (λ s. s.table) c.self.view_is) in
    let P : PassView → Type 0 = λ p. may_hit p.sight ≡ true in
    let pends = sym c.pass.invariant.1 ∙ c.in-Some.is in
    let Q : Option ℕ → Type 0 = λ o. some_and o (λ i. may_end c.pass.inside.seat.me.0.sight i) ≡ true in (
      same,
      omega arith,
      hits_as c.self.inside.table.shared.key c.self.inside.table.shared.table_id.slots c.pass.inside.seat.id c.in-Some.index
          c.pass.inside.seat.me c.pass.invariant.0 (subst Q pends (subst P (sym c.pass.view_is) c.requires.ready)),
    )
