use Rattle.ct_pool.proofs.Base.{rules, ◌≡◌, ◌∙◌, sym, ap, subst, length, arith, All, fresh}
use Rattle.ct_pool.specs.Passes.{PassView, passes_of}
use Rattle.ct_pool.proofs.Opened.{opened_fresh, length-passes_of}
use Rattle.ct_pool.proofs.passes.open.Goals as goal

pub returns-clause-fresh : goal.returns-clause-fresh
returns-clause-fresh c =
    let table_is = ap (λ s. s.table) c.claims.view_is in
    let number_is : c.loop-number.number ≡ c.args.workers = omega arith in
    let same : c.loop-number.passes.items ≡ passes_of c.in_ok-claims.claims.table c.args.workers =
    c.loop-number.invariant.passes ∙ (λ i. passes_of (table_is i) (number_is i)) in (
      let len : length c.loop-number.passes.items ≡ c.args.workers = ap length same ∙ length-passes_of c.in_ok-claims.claims.table c.args.workers in
          search rules,
      subst (All (λ (p : PassView). (p.table ≡ c.in_ok-claims.claims.table) × (p.sight ≡ fresh))) (sym same)
          (opened_fresh c.in_ok-claims.claims.table c.args.workers),
    )
