use Rattle.ct_poly.proofs.Base.{◌∙◌, sym, ap, subst, Ok, Some, length, IfSome}
use Rattle.ct_poly.specs.Cells.{IsQuotient}
use Rattle.ct_poly.specs.Terms.{IsListOf, poly_of_terms, size_of}
use Rattle.ct_poly.proofs.CellAnswers.{cells_answer}
use Rattle.ct_poly.proofs.OfTerms.{list_of, poly_is}
use Rattle.ct_poly.proofs.poly.Poly.divide_in_cells.Goals as goal

pub next_term-requires-clause-nonzero : goal.next_term-requires-clause-nonzero
next_term-requires-clause-nonzero c =
    (list_of c.terms-divisor.result.now c.terms-divisor.ensures c.within_limits-2.ensures.few c.within_limits-2.ensures.small).falling

pub next_term-requires-clause-small : goal.next_term-requires-clause-small
next_term-requires-clause-small c =
    (list_of c.terms-dividend.result.now c.terms-dividend.ensures c.within_limits.ensures.few c.within_limits.ensures.small).small

pub quotient_in_cells-requires-clause-counts : goal.quotient_in_cells-requires-clause-counts
quotient_in_cells-requires-clause-counts c = (
  (list_of c.terms-dividend.result.now c.terms-dividend.ensures c.within_limits.ensures.few c.within_limits.ensures.small).few,
  (list_of c.terms-divisor.result.now c.terms-divisor.ensures c.within_limits-2.ensures.few c.within_limits-2.ensures.small).few,
)

pub quotient_in_cells-requires-clause-norms : goal.quotient_in_cells-requires-clause-norms
quotient_in_cells-requires-clause-norms c = (
  (list_of c.terms-dividend.result.now c.terms-dividend.ensures c.within_limits.ensures.few c.within_limits.ensures.small).small,
  (list_of c.terms-divisor.result.now c.terms-divisor.ensures c.within_limits-2.ensures.few c.within_limits-2.ensures.small).small,
)

pub returns : goal.returns
returns c =
    let mine = list_of c.terms-dividend.result.now c.terms-dividend.ensures c.within_limits.ensures.few c.within_limits.ensures.small in
    let its = list_of c.terms-divisor.result.now c.terms-divisor.ensures c.within_limits-2.ensures.few c.within_limits-2.ensures.small in
    let list : IsListOf (poly_of_terms c.in-Some.found.items) (length c.in-Some.found.items)
    (size_of c.in-Some.found.items) c.in_ok-terms.terms.items =
    subst (λ ts. IsListOf (poly_of_terms ts) (length ts) (size_of ts) c.in_ok-terms.terms.items) c.as_slice.ensures.value c.in_ok-terms.ensures in
    let found : IsQuotient (poly_of_terms c.terms-dividend.result.now) (length c.terms-dividend.result.now)
    (size_of c.terms-dividend.result.now) c.terms-divisor.result.now c.in-Some.found.items =
    subst (λ o. IfSome o (λ q. IsQuotient (poly_of_terms c.terms-dividend.result.now) (length c.terms-dividend.result.now)
    (size_of c.terms-dividend.result.now) c.terms-divisor.result.now q.items)) c.in-Some.is c.in_ok-found.ensures in
    cells_answer found list mine its ∙ ap (λ q. Ok (Some q)) (sym (poly_is c.in_ok-terms.terms.items list c.of_terms.ensures))
