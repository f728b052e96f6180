use Rattle.ct_pool.proofs.Base.{◌∙◌, sym, ap, arith, is_legal, Look}
use Rattle.ct_pool.proofs.RuleByWorkers.{looks_as}
use Rattle.ct_pool.proofs.claims.Claims.look.Goals as goal

pub load-word-requires : goal.load-word-requires
load-word-requires c =
    let same = ap (λ p. p.table) c.pass.view_is ∙ c.requires.table ∙ sym (ap (λ s. s.table) c.self.view_is) in
    let count_is = ap (λ s. s.count) c.self.view_is in
    let may = ap (λ k. is_legal k c.pass.inside.seat.me.0.sight (Look 0)) count_is
    ∙ ap (λ p. is_legal c.args.self.now.count p.sight (Look 0)) c.pass.view_is ∙ c.requires.ready in (
      same,
      omega arith,
      looks_as c.self.inside.count c.self.inside.table.shared.key c.self.inside.table.shared.table_id.slots c.pass.inside.seat.id
          c.pass.inside.seat.me c.self.invariant.1 c.pass.invariant.0 may,
    )
