use Rattle.ct_setup.proofs.Base.{◌≡◌, ◌+◌, ◌≤◌, length, actions_of}
use Rattle.ct_setup.proofs.GivenPolynomials.{AreGiven}
use Rattle.ct_setup.proofs.NumberedFromZero.{after}
use Rattle.ct_setup.specs.Setup.{checked_den, checked_dens}
use Rattle.ct_setup.proofs.denominators.denominators.Given as goal

-- what is done and what is left
abbrev pub invariant-valuing : goal.invariant-valuing
invariant-valuing l =
    (checked_dens (actions_of l.algebra) l.dens ≡ after (checked_den (actions_of l.algebra)) l.done.items l.rest) ×
    AreGiven l.algebra l.rest × (length l.done.items + length l.rest ≤ 6)

abbrev pub decreases-valuing : goal.decreases-valuing
decreases-valuing l = length l.rest
