use Rattle.ct_frac.proofs.Base.{◌≡◌, ◌++◌, Ok, length, name_with, ◌>>=◌}
use Rattle.ct_frac.specs.Symbols.{checked_raised}
use Rattle.ct_frac.proofs.delta.raised.Given as goal

abbrev pub invariant-raising : goal.invariant-raising
invariant-raising l =
    checked_raised (name_with l.i) l.fn.factors ≡ (checked_raised (name_with l.i) l.rest >>= (λ gs. Ok (l.out.items ++ gs)))

abbrev pub decreases-raising : goal.decreases-raising
decreases-raising l = length l.rest
