use Rattle.ct_poly.proofs.Base.{refl, sym, inl, inr, verdict_refuses}
use Rattle.ct_poly.specs.Measures.{checked_times}
use Rattle.ct_poly.proofs.Values.{kept, can_multiply, product_is_kept, product_answers, product_with_zero_answers}
use Rattle.ct_poly.proofs.poly.Poly.mul.Goals.{then-is_zero-via-then-is_zero, then-is_zero-via-else-is_zero+then-is_zero-2}
use Rattle.ct_poly.proofs.poly.Poly.mul.Goals as goal

pub returns-then-is_zero : goal.returns-then-is_zero
returns-then-is_zero c =
    product_with_zero_answers c.args.self.now c.args.other.now c.zero.result
    (elim c.then-is_zero.branch [
      | then-is_zero-via-then-is_zero w ↦ inl (w.if-is_zero.ensures.0 refl)
      | then-is_zero-via-else-is_zero+then-is_zero-2 w ↦ inr
          (w.if-is_zero-2.ensures.0 refl)
    ])
    c.zero.ensures

pub returns-in-Some : goal.returns-in-Some
unfolding checked_times
returns-in-Some c = verdict_refuses _ _ _ (sym c.in-Some.ensures)

pub product_of_terms-requires : goal.product_of_terms-requires
product_of_terms-requires c =
    let mine = kept c.as_slice.result.now c.self.inside.terms.items c.as_slice.ensures.value c.self.invariant c.self.view_is in
    let its = kept c.as_slice-2.result.now c.other.inside.terms.items c.as_slice-2.ensures.value c.other.invariant c.other.view_is in
    can_multiply c.as_slice.result.now c.as_slice-2.result.now mine its (λ none. let zero = c.if-is_zero.ensures.1 none in cc)
    (λ none. let zero = c.if-is_zero-2.ensures.1 none in cc) c.in_default.ensures

pub invariant_of-result : goal.invariant_of-result
invariant_of-result c =
    let mine = kept c.as_slice.result.now c.self.inside.terms.items c.as_slice.ensures.value c.self.invariant c.self.view_is in
    let its = kept c.as_slice-2.result.now c.other.inside.terms.items c.as_slice-2.ensures.value c.other.invariant c.other.view_is in
    product_is_kept c.as_slice.result.now c.as_slice-2.result.now mine its (λ none. let zero = c.if-is_zero.ensures.1 none in cc)
    (λ none. let zero = c.if-is_zero-2.ensures.1 none in cc) c.in_default.ensures c.in_ok-terms.terms.items c.in_ok-terms.ensures

pub returns : goal.returns
returns c =
    let mine = kept c.as_slice.result.now c.self.inside.terms.items c.as_slice.ensures.value c.self.invariant c.self.view_is in
    let its = kept c.as_slice-2.result.now c.other.inside.terms.items c.as_slice-2.ensures.value c.other.invariant c.other.view_is in
    product_answers c.as_slice.result.now c.as_slice-2.result.now mine its (λ none. let zero = c.if-is_zero.ensures.1 none in cc)
    (λ none. let zero = c.if-is_zero-2.ensures.1 none in cc) c.in_default.ensures c.in_ok-terms.terms.items c.in_ok-terms.ensures
