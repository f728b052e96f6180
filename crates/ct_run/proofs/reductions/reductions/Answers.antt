use Rattle.ct_run.proofs.Base.{ap, map, actions_of, reduction_of, each_behind}
use Rattle.ct_run.specs.Reducing.{target_reduction}
use Rattle.ct_run.proofs.reductions.reductions.Goals as goal

pub reducing-init : goal.reducing-init
reducing-init c =
    each_behind (target_reduction (actions_of c.args.algebra.now) c.args.generators.now) (map reduction_of c.new-done.result.items) c.args.targets.now
    (ap (map reduction_of) c.new-done.ensures.items)
