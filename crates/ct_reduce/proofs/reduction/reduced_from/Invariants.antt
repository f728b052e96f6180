use Rattle.ct_reduce.proofs.Base.{◌≡◌, length, actions_of}
use Rattle.ct_reduce.specs.Reduction.{reduction_from, reduction_turn, reduction_rank}
use Rattle.ct_reduce.specs.Views.{reduction_of}
use Rattle.ct_reduce.proofs.reduction.reduced_from.Given as goal

abbrev pub invariant-reducing : goal.invariant-reducing
invariant-reducing l =
    (reduction_from (actions_of l.algebra) l.generators (reduction_of l.fn.start) ≡ reduction_turn (actions_of l.algebra) l.generators
    (reduction_of l.state))
    × (length l.state.cofactors.items ≡ length l.generators)

abbrev pub decreases-reducing : goal.decreases-reducing
decreases-reducing l = reduction_rank l.generators (reduction_of l.state)
