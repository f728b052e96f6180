use Rattle.ct_poly.proofs.Base.{◌≡◌, length, slice_cmp}
use Rattle.ct_poly.specs.Order.{term_cmp}
use Rattle.ct_poly.specs.Terms.{entries}
use Rattle.ct_poly.proofs.order.cmp_of_terms.Given as goal

-- the terms so far are the same
abbrev pub invariant-comparing : goal.invariant-comparing
invariant-comparing l = slice_cmp term_cmp (entries l.p) (entries l.q) ≡ slice_cmp term_cmp (entries l.fn.ps) (entries l.fn.qs)

abbrev pub decreases-comparing : goal.decreases-comparing
decreases-comparing l = length l.p
