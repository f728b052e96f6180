use Rattle.ct_pool.proofs.Base.{rules, ◌≡◌, [], None, false, fresh}
use Rattle.ct_pool.specs.declared.workers.Worker.{Worker}
use Rattle.ct_pool.specs.Passes.{PassView}
use Rattle.ct_pool.proofs.Lists.{all_push, all_pop}
use Rattle.ct_pool.proofs.first.team_of.Goals as goal

pub loop-pass-preserved : goal.loop-pass-preserved
loop-pass-preserved g c =
    let P : PassView → Type 0 = λ pass. (pass.table ≡ c.args.claims.now.table) × (pass.sight ≡ fresh) in
    let Q : Worker g.row.M.Denot g.row.H.Denot → Type 0 =
    λ w. (w.pass.table ≡ c.args.claims.now.table) × (w.pass.sight ≡ fresh) × (w.misses.items ≡ []) × (w.hit ≡ None) × (w.starved ≡ false) in
    let popped = all_pop P c.pop.new.self.items c.loop-pass.passes.items c.in-Some.pass c.in-Some.ensures.items c.loop-pass.invariant.passes in
    record {
      size = search rules;
      passes = popped.1;
      team = all_push Q c.loop-pass.team.items c.push.new.self.items _ c.in_ok-push.ensures.items
          (search rules) c.loop-pass.invariant.team;
    }
