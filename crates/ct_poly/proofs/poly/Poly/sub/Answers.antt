use Rattle.ct_poly.proofs.Base.{sym, subst, length, polys, verdict_refuses}
use Rattle.ct_poly.specs.Terms.{IsListOf, poly_of_terms, size_of}
use Rattle.ct_poly.specs.Measures.{checked_minus}
use Rattle.ct_poly.proofs.Values.{kept, difference_small, difference_is_kept, difference_answers}
use Rattle.ct_poly.proofs.poly.Poly.sub.Goals as goal

pub returns-in-Some : goal.returns-in-Some
unfolding checked_minus
returns-in-Some c = verdict_refuses _ _ _ (sym c.in-Some.ensures)

pub sum_of_terms-requires-clause-small : goal.sum_of_terms-requires-clause-small
sum_of_terms-requires-clause-small c =
    let mine = kept c.as_slice-2.result.now c.self.inside.terms.items c.as_slice-2.ensures.value c.self.invariant c.self.view_is in
    let its = kept c.as_slice.result.now c.other.inside.terms.items c.as_slice.ensures.value c.other.invariant c.other.view_is in
    let negative = subst (IsListOf (polys.neg (poly_of_terms c.as_slice.result.now)) (length c.as_slice.result.now) (size_of c.as_slice.result.now))
    (sym c.as_slice-3.ensures.value) c.in_ok-negative.ensures in
    difference_small c.as_slice-2.result.now c.as_slice.result.now mine its c.as_slice-3.result.now negative c.in_default.ensures

pub invariant_of-result : goal.invariant_of-result
invariant_of-result c =
    let mine = kept c.as_slice-2.result.now c.self.inside.terms.items c.as_slice-2.ensures.value c.self.invariant c.self.view_is in
    let its = kept c.as_slice.result.now c.other.inside.terms.items c.as_slice.ensures.value c.other.invariant c.other.view_is in
    let negative = subst (IsListOf (polys.neg (poly_of_terms c.as_slice.result.now)) (length c.as_slice.result.now) (size_of c.as_slice.result.now))
    (sym c.as_slice-3.ensures.value) c.in_ok-negative.ensures in
    difference_is_kept c.as_slice-2.result.now c.as_slice.result.now mine its c.as_slice-3.result.now negative c.in_ok-terms.terms.items
    c.in_ok-terms.ensures c.in_default.ensures

pub returns : goal.returns
returns c =
    let mine = kept c.as_slice-2.result.now c.self.inside.terms.items c.as_slice-2.ensures.value c.self.invariant c.self.view_is in
    let its = kept c.as_slice.result.now c.other.inside.terms.items c.as_slice.ensures.value c.other.invariant c.other.view_is in
    let negative = subst (IsListOf (polys.neg (poly_of_terms c.as_slice.result.now)) (length c.as_slice.result.now) (size_of c.as_slice.result.now))
    (sym c.as_slice-3.ensures.value) c.in_ok-negative.ensures in
    difference_answers c.as_slice-2.result.now c.as_slice.result.now mine its c.as_slice-3.result.now negative c.in_ok-terms.terms.items
    c.in_ok-terms.ensures c.in_default.ensures
