use Rattle.ct_pool.proofs.Base.{rules, ◌∙◌, ap, None, map, replicate}
use Rattle.ct_pool.specs.Found.{AreFound}
use Rattle.ct_pool.proofs.Lists.{map_push, each_of_map}
use Rattle.ct_pool.proofs.Conclusion.{begins, last_found, no_hit_goes, other_hit_goes, hit_goes}
use Rattle.ct_pool.proofs.decision.conclude.Goals as goal

pub loop-misses-init : goal.loop-misses-init
loop-misses-init g c = begins (g.J.Job.outcome c.args.job.now) c.args.count c.args.least c.in_ok-slots.slots.items _
    (c.in_ok-slots.ensures ∙ ap (λ n. replicate n None) c.bound-bound.ensures)
    (each_of_map _ (AreFound (g.J.Job.outcome c.args.job.now)) c.args.founds.items c.requires.found) c.requires.covers

pub fill-requires-clause-misses : goal.fill-requires-clause-misses
fill-requires-clause-misses g c κs within =
    (last_found (g.J.Job.outcome c.args.job.now) c.args.count c.args.least c.loop-misses.slots.items c.loop-misses.best _ _ _
    (ap (map _) c.in-Some.ensures.items ∙ map_push _ c.pop.new.self.items (c.in-Some.misses, c.in-Some.hit)) c.loop-misses.invariant).0

pub loop-misses-preserved-then-eq : goal.loop-misses-preserved-then-eq
loop-misses-preserved-then-eq g c =
    hit_goes (g.J.Job.outcome c.args.job.now) c.args.count c.args.least c.loop-misses.slots.items c.fill.new.slots.items c.loop-misses.best _ _
    c.in-Some.misses.items c.in-Some.hit c.in-Some-hit.index c.in-Some-hit.value c.in-Some-hit.is (search rules)
    (ap (map _) c.in-Some.ensures.items ∙ map_push _ c.pop.new.self.items (c.in-Some.misses, c.in-Some.hit)) c.fill.ensures.slots c.fill.ensures.len
    c.fill.ensures.left c.loop-misses.invariant

pub loop-misses-preserved-else-eq : goal.loop-misses-preserved-else-eq
loop-misses-preserved-else-eq g c =
    other_hit_goes (g.J.Job.outcome c.args.job.now) c.args.count c.args.least c.loop-misses.slots.items c.fill.new.slots.items c.loop-misses.best _ _
    c.in-Some.misses.items c.in-Some.hit c.in-Some-hit.index c.in-Some-hit.value c.in-Some-hit.is (search rules)
    (ap (map _) c.in-Some.ensures.items ∙ map_push _ c.pop.new.self.items (c.in-Some.misses, c.in-Some.hit)) c.fill.ensures.slots c.fill.ensures.len
    c.fill.ensures.left c.loop-misses.invariant

pub loop-misses-preserved : goal.loop-misses-preserved
loop-misses-preserved g c =
    no_hit_goes (g.J.Job.outcome c.args.job.now) c.args.count c.args.least c.loop-misses.slots.items c.fill.new.slots.items c.loop-misses.best _ _
    c.in-Some.misses.items c.in-Some.hit (search rules) (ap (map _) c.in-Some.ensures.items
    ∙ map_push _ c.pop.new.self.items (c.in-Some.misses, c.in-Some.hit)) c.fill.ensures.slots c.fill.ensures.len c.fill.ensures.left
    c.loop-misses.invariant
