use Rattle.ct_run.proofs.Base.{length}
use Rattle.std.specs.Vec.Iter.{into_iter_items}
use Rattle.ct_run.proofs.Parts.{IsPairing}
use Rattle.ct_run.proofs.values.parts.Given as goal

-- what is done and what is left
abbrev pub invariant-pairing : goal.invariant-pairing
invariant-pairing l = IsPairing l.fn.names l.fn.quotients.items l.fn.factors.items l.done.items l.rest (into_iter_items l.quotients)
    (into_iter_items l.factors)

abbrev pub decreases-pairing : goal.decreases-pairing
decreases-pairing l = length l.rest
