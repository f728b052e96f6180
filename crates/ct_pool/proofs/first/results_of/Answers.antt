use Rattle.ct_pool.proofs.Base.{rules, ◌≡◌, true, false, ap, ◌∙◌, map, has_ended}
use Rattle.ct_pool.specs.declared.workers.Worker.{Worker}
use Rattle.ct_pool.specs.Passes.{PassView}
use Rattle.ct_pool.specs.Found.{IsFound, AreFound, key_of}
use Rattle.ct_pool.proofs.Lists.{all_pop, all_push, all_reverse, each_push, maps_push, map_push}
use Rattle.ct_pool.proofs.first.results_of.Goals as goal

pub loop-worker-init : goal.loop-worker-init
loop-worker-init g c =
    let P : Worker g.row.J-Miss.Denot g.row.J-Hit.Denot → Type 0 =
    λ w. (w.pass.table ≡ c.args.claims.now.table) × (w.starved ≡ false →
    IsFound (g.J.Job.outcome c.args.job.now) c.args.claims.now.count w.pass.sight w.misses.items w.hit) in
    record {
      size = search rules;
      team = all_reverse P c.args.team.items c.reverse.new.self.items (search rules) c.requires.team;
      table = search rules;
      ended = search rules;
      keys = search rules;
      found = search rules;
    }

pub loop-worker-preserved : goal.loop-worker-preserved
loop-worker-preserved g c =
    let P : Worker g.row.J-Miss.Denot g.row.J-Hit.Denot → Type 0 =
    λ w. (w.pass.table ≡ c.args.claims.now.table) × (w.starved ≡ false →
    IsFound (g.J.Job.outcome c.args.job.now) c.args.claims.now.count w.pass.sight w.misses.items w.hit) in
    let popped = all_pop P c.pop.new.self.items c.loop-worker.team.items c.in-Some.worker c.in-Some.ensures.items c.loop-worker.invariant.team in
    let is_found = popped.0.1 c.if-starved.false in
    let sights = ap (map (λ (p : PassView). p.sight)) c.in_ok-push.ensures.items
    ∙ map_push (λ (p : PassView). p.sight) c.loop-worker.passes.items c.in-Some.worker.pass in
    record {
      size = search rules;
      team = popped.1;
      table = all_push (λ (p : PassView). p.table ≡ c.args.claims.now.table) c.loop-worker.passes.items c.push.new.self.items c.in-Some.worker.pass
          c.in_ok-push.ensures.items popped.0.0 c.loop-worker.invariant.table;
      ended = each_push (λ v. has_ended c.args.claims.now.count v ≡ true) (map (λ (p : PassView). p.sight) c.loop-worker.passes.items)
          (map (λ (p : PassView). p.sight) c.push.new.self.items) c.in-Some.worker.pass.sight sights is_found.ended c.loop-worker.invariant.ended;
      keys = maps_push _ key_of c.loop-worker.founds.items c.push-in-Some.new.self.items (map (λ (p : PassView). p.sight) c.loop-worker.passes.items)
          (map (λ (p : PassView). p.sight) c.push.new.self.items) (
            c.in-Some.worker.misses,
            c.in-Some.worker.hit,
          ) c.in-Some.worker.pass.sight c.in_ok-push-2.ensures.items sights
          (λ i. (is_found.numbers i, is_found.hit_is i)) c.loop-worker.invariant.keys;
      found = each_push (λ f. AreFound (g.J.Job.outcome c.args.job.now) (f.0.items, f.1)) c.loop-worker.founds.items c.push-in-Some.new.self.items
          (c.in-Some.worker.misses, c.in-Some.worker.hit) c.in_ok-push-2.ensures.items
          (is_found.misses_are, is_found.hit_found) c.loop-worker.invariant.found;
    }
