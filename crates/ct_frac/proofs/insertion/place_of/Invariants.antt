use Rattle.ct_frac.proofs.Base.{◌≡◌, ◌+◌, length}
use Rattle.ct_frac.specs.Code.{place_in}
use Rattle.ct_frac.proofs.insertion.place_of.Given as goal

abbrev pub invariant-passing : goal.invariant-passing
invariant-passing l =
    (place_in l.poly l.fn.factors ≡ l.place + place_in l.poly l.rest) × (l.place + length l.rest ≡ length l.fn.factors)

abbrev pub decreases-passing : goal.decreases-passing
decreases-passing l = length l.rest
