use Rattle.ct_poly.proofs.Base.{◌≡◌, ◌↔◌, length}
use Rattle.ct_poly.specs.Terms.{entries}
use Rattle.ct_poly.proofs.measures.same_terms.Given as goal

-- the terms so far are the same
abbrev pub invariant-comparing : goal.invariant-comparing
invariant-comparing l = (entries l.p ≡ entries l.q) ↔ (entries l.fn.ps ≡ entries l.fn.qs)

abbrev pub decreases-comparing : goal.decreases-comparing
decreases-comparing l = length l.p
