use Rattle.ct_poly.proofs.Base.{◌≡◌, ◌↔◌, length, exp, EachTerm}
use Rattle.ct_poly.specs.Terms.{entries}
use Rattle.ct_poly.proofs.measures.some_term_has.Given as goal

-- the terms so far are without the name
abbrev pub invariant-searching : goal.invariant-searching
invariant-searching l = EachTerm (λ m c. exp m l.i ≡ 0) (entries l.rest) ↔ EachTerm (λ m c. exp m l.i ≡ 0) (entries l.fn.ts)

abbrev pub decreases-searching : goal.decreases-searching
decreases-searching l = length l.rest
