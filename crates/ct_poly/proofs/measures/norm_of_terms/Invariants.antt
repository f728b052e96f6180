use Rattle.ct_poly.proofs.Base.{◌≡◌, take}
use Rattle.ct_poly.specs.Terms.{size_of}
use Rattle.ct_poly.proofs.measures.norm_of_terms.Given as goal

-- the sum over the terms so far
abbrev pub invariant-loop-t : goal.invariant-loop-t
invariant-loop-t l = l.sum ≡ size_of (take l.t-index l.ts)
