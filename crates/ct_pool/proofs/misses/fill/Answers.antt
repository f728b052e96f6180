use Rattle.ct_pool.proofs.Base.{arith, ◌∙◌, length-set, Some}
use Rattle.ct_pool.proofs.MissesInOrder.{fills, passes_by}
use Rattle.ct_pool.proofs.misses.fill.Goals as goal

pub loop-index-preserved-then-place-len : goal.loop-index-preserved-then-place-len
loop-index-preserved-then-place-len g c =
    record {
      filling = fills (g.J.Job.outcome c.args.job.now) c.args.misses.items c.loop-index.misses.items c.pop.new.self.items
          c.args.slots.now.items c.loop-index.slots.items c.in-Some.index c.in-Some.miss c.in-Some.ensures.items c.loop-index.invariant.filling;
      len =
          length-set c.loop-index.slots.items c.in-Some.index (Some c.in-Some.miss) ∙ c.loop-index.invariant.len;
    }

pub loop-index-preserved-then-place-len-2 : goal.loop-index-preserved-then-place-len-2
loop-index-preserved-then-place-len-2 g c =
    record {
      filling = fills (g.J.Job.outcome c.args.job.now) c.args.misses.items c.loop-index.misses.items c.pop.new.self.items
          c.args.slots.now.items c.loop-index.slots.items c.in-Some.index c.in-Some.miss c.in-Some.ensures.items c.loop-index.invariant.filling;
      len =
          length-set c.loop-index.slots.items c.in-Some.index (Some c.in-Some.miss) ∙ c.loop-index.invariant.len;
    }

pub loop-index-preserved : goal.loop-index-preserved
loop-index-preserved g c =
    record {
      filling = passes_by (g.J.Job.outcome c.args.job.now) c.args.misses.items c.loop-index.misses.items c.pop.new.self.items
          c.args.slots.now.items c.loop-index.slots.items c.in-Some.index c.in-Some.miss c.in-Some.ensures.items
          (omega arith) c.loop-index.invariant.filling;
      len = c.loop-index.invariant.len;
    }
