use Rattle.ct_poly.proofs.Base.{◌≡◌, ◌+◌, length}
use Rattle.ct_poly.specs.Accumulation.{count_above}
use Rattle.ct_poly.specs.Terms.{entries}
use Rattle.ct_poly.proofs.accumulation.number_above_singly.Given as goal

-- the number so far and that of the rest are the whole
abbrev pub invariant-counting : goal.invariant-counting
invariant-counting l =
    (l.number + count_above l.mono (entries l.rest) ≡ count_above l.mono (entries l.fn.p)) × (l.number + length l.rest ≡ length l.fn.p)

abbrev pub decreases-counting : goal.decreases-counting
decreases-counting l = length l.rest
