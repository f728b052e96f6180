use Rattle.ct_module.proofs.Base.{◌≡◌, ◌++◌, length, filter}
use Rattle.ct_module.specs.Columns.{has_summed}
use Rattle.ct_module.proofs.denominators.summed_factors.Given as goal

abbrev pub invariant-choosing : goal.invariant-choosing
invariant-choosing l =
    l.chosen.items ++ filter (λ f. has_summed l.algebra f.poly) l.rest ≡ filter (λ f. has_summed l.algebra f.poly) l.factors

abbrev pub decreases-choosing : goal.decreases-choosing
decreases-choosing l = length l.rest
