use Rattle.ct_module.proofs.Base.{◌≡◌, ◌++◌, length, map, behind, zip}
use Rattle.ct_frac.specs.Arithmetic.{checked_fraction_difference}
use Rattle.ct_frac.specs.Written.{value}
use Rattle.ct_module.specs.Columns.{checked_differences}
use Rattle.ct_module.specs.Values.{differences_of}
use Rattle.ct_module.proofs.certificates.differences.Given as goal

abbrev pub invariant-going : goal.invariant-going
invariant-going l =
    (checked_differences l.v l.w ≡ behind (λ _ p. checked_fraction_difference p.0 p.1) l.made.items (zip l.left l.right))
    × (map value l.made.items ++ differences_of l.left l.right ≡ differences_of l.v l.w)

abbrev pub decreases-going : goal.decreases-going
decreases-going l = length l.left
