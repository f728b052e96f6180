use Rattle.ct_pool.proofs.Base.{◌≡◌, ℕ, ◌<◌, List, length, false, sym, subst, arith, rules, All, map, length-map, DecidedBy}
use Rattle.ct_pool.specs.declared.workers.Worker.{Worker}
use Rattle.ct_pool.specs.Passes.{PassView}
use Rattle.ct_pool.specs.Found.{IsFound}
use Rattle.ct_pool.proofs.Lists.{slice_back}
use Rattle.ct_pool.proofs.Conclusion.{covers_of, decided_within}
use Rattle.ct_pool.proofs.first.first_decided.Goals as goal

-- as many views as there are workers, so there is one
some_view : {X Y : Type 0} (f : X → Y) (xs : List X) (workers : ℕ) → 0 < workers → length xs ≡ workers → 0 < length (map f xs)
some_view f xs workers some size = let same = length-map xs f in omega arith

pub results_of-requires-clause-team : goal.results_of-requires-clause-team
results_of-requires-clause-team g c κs within =
    let P : Worker g.row.J-Miss.Denot g.row.J-Hit.Denot → Type 0 =
    λ w. (w.pass.table ≡ c.in_ok-claims.claims.table) × (w.starved ≡ false →
    IsFound (g.J.Job.outcome c.args.job.now) c.in_ok-claims.claims.count w.pass.sight w.misses.items w.hit) in
    subst (All P) (sym (slice_back c.in_ok-team.team.len c.work_all.new.workers _ (search rules))) c.work_all.ensures.found

pub conclude-requires-clause-covers : goal.conclude-requires-clause-covers
conclude-requires-clause-covers g c κs within =
    let sights = map (λ (p : PassView). p.sight) c.in_ok-passes.passes.items in
    let size : length c.in_ok-passes.passes.items ≡ c.args.workers =
    omega (arith, c.in_ok-passes.passes.ok, c.in_ok-passes.ensures.size, c.in_ok-team.ensures.team.0, c.in_ok-claims.ensures.fresh.0) in
    let one = some_view (λ (p : PassView). p.sight) c.in_ok-passes.passes.items c.args.workers c.requires.workers.0 size in
    let decided = c.gather-closed.ensures.gathered.decided one c.in_ok-passes.ensures.ended in
    covers_of c.args.count c.gather-closed.result.least sights _ c.in_ok-passes.founds.items c.in_ok-passes.ensures.keys
    (subst (λ (n : ℕ). DecidedBy n sights c.gather-closed.result.least) c.in_ok-claims.ensures.claims decided)

pub conclude-requires-clause-within : goal.conclude-requires-clause-within
conclude-requires-clause-within g c κs within =
    let sights = map (λ (p : PassView). p.sight) c.in_ok-passes.passes.items in
    let size : length c.in_ok-passes.passes.items ≡ c.args.workers =
    omega (arith, c.in_ok-passes.passes.ok, c.in_ok-passes.ensures.size, c.in_ok-team.ensures.team.0, c.in_ok-claims.ensures.fresh.0) in
    let one = some_view (λ (p : PassView). p.sight) c.in_ok-passes.passes.items c.args.workers c.requires.workers.0 size in
    let decided = c.gather-closed.ensures.gathered.decided one c.in_ok-passes.ensures.ended in
    decided_within c.args.count c.in_ok-claims.claims.count c.gather-closed.result.least sights c.in_ok-claims.ensures.claims decided
