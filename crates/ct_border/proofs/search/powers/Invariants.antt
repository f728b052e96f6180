use Rattle.ct_border.proofs.Base.{◌≡◌, ◌<◌, All, length}
use Rattle.ct_border.specs.Staircase.{powers_test}
use Rattle.ct_border.proofs.search.powers.Given as goal

abbrev pub invariant-testing : goal.invariant-testing
invariant-testing l = (powers_test l.leading l.names ≡ powers_test l.leading l.rest) × All (λ i. i < 6) l.rest

abbrev pub decreases-testing : goal.decreases-testing
decreases-testing l = length l.rest
