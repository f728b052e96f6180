use Rattle.ct_frac.proofs.Base.{◌≡◌, ◌++◌, length, name_with}
use Rattle.ct_frac.specs.Symbols.{with_name}
use Rattle.ct_frac.proofs.delta.factors_with_name.Given as goal

abbrev pub invariant-choosing : goal.invariant-choosing
invariant-choosing l = l.out.items ++ with_name (name_with l.i) l.rest ≡ with_name (name_with l.i) l.fn.factors

abbrev pub decreases-choosing : goal.decreases-choosing
decreases-choosing l = length l.rest
