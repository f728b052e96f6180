use Rattle.ct_frac.proofs.Base.{◌≡◌, ◌+◌, ◌++◌, [], length, take, name_with}
use Rattle.ct_frac.specs.Symbols.{checked_without_parts}
use Rattle.ct_frac.proofs.delta.without_parts.Given as goal

abbrev pub invariant-parting : goal.invariant-parting
invariant-parting l =
    (checked_without_parts (name_with l.i) l.n l.fn.start [] l.factors ≡ checked_without_parts (name_with l.i) l.n l.left
    (take l.place l.factors) l.rest)
    × (take l.place l.factors ++ l.rest ≡ l.factors) × (l.place + length l.rest ≡ length l.factors)

abbrev pub decreases-parting : goal.decreases-parting
decreases-parting l = length l.rest
