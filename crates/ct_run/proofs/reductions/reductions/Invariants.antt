use Rattle.ct_run.proofs.Base.{◌≡◌, length, map, actions_of, reduction_of, behind}
use Rattle.ct_run.specs.Reducing.{checked_reductions, target_reduction}
use Rattle.ct_run.proofs.reductions.reductions.Given as goal

-- what is done and what is left
abbrev pub invariant-reducing : goal.invariant-reducing
invariant-reducing l =
    checked_reductions (actions_of l.algebra) l.generators l.targets ≡
    behind (target_reduction (actions_of l.algebra) l.generators) (map reduction_of l.done.items) l.rest

abbrev pub decreases-reducing : goal.decreases-reducing
decreases-reducing l = length l.rest
