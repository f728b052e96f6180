use Rattle.ct_reduce.proofs.Base.{◌≡◌, length, [], actions_of}
use Rattle.ct_reduce.specs.Reduction.{checked_multiples}
use Rattle.ct_reduce.proofs.step.multiples.Given as goal

abbrev pub invariant-multiplying : goal.invariant-multiplying
invariant-multiplying l =
    checked_multiples (actions_of l.algebra) l.m [] l.fn.cofactors ≡ checked_multiples (actions_of l.algebra) l.m l.done.items l.rest

abbrev pub decreases-multiplying : goal.decreases-multiplying
decreases-multiplying l = length l.rest
