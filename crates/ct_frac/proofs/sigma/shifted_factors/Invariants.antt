use Rattle.ct_frac.proofs.Base.{◌≡◌, [], length, name_with}
use Rattle.ct_frac.specs.Symbols.{checked_shifted_factors}
use Rattle.ct_frac.proofs.sigma.shifted_factors.Given as goal

abbrev pub invariant-shifting : goal.invariant-shifting
invariant-shifting l = checked_shifted_factors (name_with l.i) [] l.fn.factors ≡ checked_shifted_factors (name_with l.i) l.done.items l.rest

abbrev pub decreases-shifting : goal.decreases-shifting
decreases-shifting l = length l.rest
