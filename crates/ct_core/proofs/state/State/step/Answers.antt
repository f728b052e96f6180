use Rattle.std.proofs.Common.{◌∙◌, sym, refl, arith}
use Rattle.ct_core.proofs.RunsKeep.{refuses, accepts}
use Rattle.ct_core.proofs.state.State.step.Goals as goal

pub returns-then-not-allows : goal.returns-then-not-allows
returns-then-not-allows c = (
  refl,
  (
    refl,
    rw (← c.self.view_is)
        (refuses _ c.args.event c.index-view.result.now c.worker-worker.result c.worker-worker.ensures (omega arith) c.index-view.ensures
        (sym c.if-not-allows.true ∙ c.allows.ensures)),
  ),
)

pub returns : goal.returns
returns c = rw (← c.self.view_is)
    (accepts _ c.args.event c.index-view.result.now c.index_mut-view.result.now c.apply.new.self c.worker-worker.result
    c.next_after-self-inside.result c.least_after-self-inside.result c.worker-worker.ensures
    (omega arith) c.index-view.ensures c.index_mut-view.ensures.value (sym c.if-not-allows.false
    ∙ c.allows.ensures) c.next_after-self-inside.ensures c.least_after-self-inside.ensures c.in_ok-apply.ensures.value)
