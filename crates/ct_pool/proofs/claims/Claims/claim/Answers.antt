use Rattle.ct_pool.proofs.Base.{◌≡◌, ◌∙◌, sym, ap, subst, true, arith}
use Rattle.ct_pool.specs.Passes.{may_claim, PassView}
use Rattle.ct_pool.proofs.RuleByWorkers.{claims_as}
use Rattle.ct_pool.proofs.claims.Claims.claim.Goals as goal

pub fetch_add-index-requires : goal.fetch_add-index-requires
fetch_add-index-requires c =
    let same = ap (λ p. p.table) c.pass.view_is ∙ c.requires.table ∙ sym (ap (λ s. s.table) c.self.view_is) in
    let P : PassView → Type 0 = λ p. may_claim p.sight p.sight.pending ≡ true in (
      same,
      omega arith,
      claims_as c.self.inside.table.shared.key c.self.inside.table.shared.table_id.slots c.pass.inside.seat.id c.pass.inside.seat.me
          c.pass.invariant.0 (subst P (sym c.pass.view_is) c.requires.ready),
    )
