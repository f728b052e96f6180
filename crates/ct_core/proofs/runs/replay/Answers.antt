use Rattle.std.proofs.Common.{◌≤◌, ◌+◌, arith}
use Rattle.ct_core.proofs.RunsKeep.{run_more, step_up, run_decides}
use Rattle.ct_core.specs.CompleteList.{Agrees}
use Rattle.ct_core.proofs.FirstHit.{run_first_hit, each_take}
use Rattle.ct_core.proofs.runs.replay.Goals as goal

pub loop-place-preserved : goal.loop-place-preserved
loop-place-preserved c =
    let e = c.in-Ok.ensures in
    record {
      run = run_more _ c.loop-place.state c.step.new.self c.args.events.now c.loop-place.place _ c.loop-place.invariant.run c.loop-place-test.true e;
      claims = let n : c.step.new.self.next ≤ c.loop-place.state.next + 1 = step_up c.loop-place.state c.step.new.self c.args.events.now c.loop-place.place _ e in omega arith;
    }

pub returns-clause-decided : goal.returns-clause-decided
returns-clause-decided c = run_decides c.args.count c.args.workers _ c.loop-place.state c.requires.workers.0 c.loop-place.invariant.run

pub returns-clause-first_hit : goal.returns-clause-first_hit
returns-clause-first_hit c =
    λ f faithful complete. run_first_hit c.args.count c.args.workers _ c.loop-place.state c.requires.workers.0 c.loop-place.invariant.run f
    (each_take (Agrees f) c.loop-place.place c.args.events.now faithful) complete
