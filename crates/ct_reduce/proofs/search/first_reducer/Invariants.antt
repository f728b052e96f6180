use Rattle.ct_reduce.proofs.Base.{◌≡◌, ◌+◌, length}
use Rattle.ct_reduce.specs.Reduction.{first_reducer, first_reducer_from}
use Rattle.ct_reduce.proofs.search.first_reducer.Given as goal

abbrev pub invariant-trying : goal.invariant-trying
invariant-trying l =
    (first_reducer l.m l.fn.generators ≡ first_reducer_from l.place l.m l.rest) × (l.place + length l.rest ≡ length l.fn.generators)

abbrev pub decreases-trying : goal.decreases-trying
decreases-trying l = length l.rest
