use Rattle.ct_module.proofs.Base.{◌≡◌, ◌++◌, length, map}
use Rattle.ct_frac.specs.Arithmetic.{negative}
use Rattle.ct_frac.specs.Written.{value}
use Rattle.ct_module.specs.Values.{negatives_of}
use Rattle.ct_module.proofs.certificates.negatives.Given as goal

abbrev pub invariant-going : goal.invariant-going
invariant-going l =
    (l.made.items ++ map negative l.rest ≡ map negative l.v) × (map value l.made.items ++ negatives_of l.rest ≡ negatives_of l.v)

abbrev pub decreases-going : goal.decreases-going
decreases-going l = length l.rest
