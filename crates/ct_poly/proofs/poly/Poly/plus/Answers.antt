use Rattle.ct_poly.proofs.Base.{sym}
use Rattle.ct_poly.proofs.Values.{kept, sum_small, sum_is_kept, sum_is}
use Rattle.ct_poly.proofs.poly.Poly.plus.Goals as goal

pub sum_of_terms-requires-clause-small : goal.sum_of_terms-requires-clause-small
sum_of_terms-requires-clause-small c =
    let mine = kept c.as_slice.result.now c.self.inside.terms.items c.as_slice.ensures.value c.self.invariant c.self.view_is in
    let its = kept c.as_slice-2.result.now c.other.inside.terms.items c.as_slice-2.ensures.value c.other.invariant c.other.view_is in
    sum_small c.as_slice.result.now c.as_slice-2.result.now mine its (sym c.requires)

pub invariant_of-result : goal.invariant_of-result
invariant_of-result c =
    let mine = kept c.as_slice.result.now c.self.inside.terms.items c.as_slice.ensures.value c.self.invariant c.self.view_is in
    let its = kept c.as_slice-2.result.now c.other.inside.terms.items c.as_slice-2.ensures.value c.other.invariant c.other.view_is in
    sum_is_kept c.as_slice.result.now c.as_slice-2.result.now mine its c.in_ok-terms.terms.items c.in_ok-terms.ensures (sym c.requires)

pub returns : goal.returns
returns c =
    let mine = kept c.as_slice.result.now c.self.inside.terms.items c.as_slice.ensures.value c.self.invariant c.self.view_is in
    let its = kept c.as_slice-2.result.now c.other.inside.terms.items c.as_slice-2.ensures.value c.other.invariant c.other.view_is in
    record { value = sum_is c.as_slice.result.now c.as_slice-2.result.now mine its c.in_ok-terms.terms.items c.in_ok-terms.ensures }
