use Rattle.ct_frac.proofs.Base.{◌≡◌, ◌+◌, length}
use Rattle.ct_frac.specs.Code.{find_place}
use Rattle.ct_frac.proofs.insertion.found.Given as goal

abbrev pub invariant-finding : goal.invariant-finding
invariant-finding l =
    (find_place 0 l.poly l.fn.factors ≡ find_place l.place l.poly l.rest) × (l.place + length l.rest ≡ length l.fn.factors)

abbrev pub decreases-finding : goal.decreases-finding
decreases-finding l = length l.rest
