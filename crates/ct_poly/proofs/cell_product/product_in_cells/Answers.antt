use Rattle.ct_poly.proofs.Base.{◌∙◌, ap, pos, [], ◌∷◌, length}
use Rattle.ct_poly.specs.Terms.{IsListOf, poly_of_terms, size_of}
use Rattle.ct_poly.proofs.CellSteps.{some_is}
use Rattle.ct_poly.proofs.CellProducts.{product_is}
use Rattle.ct_poly.proofs.cell_product.product_in_cells.Goals as goal

pub returns : goal.returns
returns c =
    let us = c.in-Some-2.found.items in
    let list : IsListOf (poly_of_terms us) (length us) (size_of us) c.in_ok-terms.terms.items =
    rw (← c.as_slice-4.ensures.value) c.in_ok-terms.ensures in
    product_is c.as_slice-2.result.now
    (c.as_slice-3.ensures.value ∙ c.in_ok-one.ensures ∙ ap (λ m. record { mono = m; coef = pos 1 } ∷ []) c.one.ensures)
    (c.as_slice.ensures.value ∙ c.new-none.ensures.items) c.requires
    (some_is _ c.in-Some-2.is c.in_ok-found.ensures) list
