use Rattle.ct_frac.proofs.Base.{◌≡◌, ◌+◌, []}
use Rattle.ct_frac.specs.Normal.{names_from, sorted_onto}
use Rattle.ct_frac.proofs.quotient.factors_of_names.Given as goal

abbrev pub invariant-naming : goal.invariant-naming
invariant-naming l =
    (sorted_onto l.factors.items (names_from l.left l.i l.mono) ≡ sorted_onto [] (names_from 6 0 l.mono)) × (l.left + l.i ≡ 6)

abbrev pub decreases-naming : goal.decreases-naming
decreases-naming l = l.left
