use Rattle.ct_poly.proofs.Base.{arith}
use Rattle.ct_poly.proofs.CellProducts.{factors_small}
use Rattle.ct_poly.proofs.cell_product.measure_of_pairs.Goals as goal

pub norm_of_terms-requires : goal.norm_of_terms-requires
norm_of_terms-requires c =
    (factors_small c.requires
    (λ none. omega (arith, c.if-ps-lt-FEWEST_TERMS.false, none))
    (λ none. omega (arith, c.if-qs-lt-FEWEST_TERMS.false, none))).0

pub norm_of_terms-requires-2 : goal.norm_of_terms-requires-2
norm_of_terms-requires-2 c =
    (factors_small c.requires
    (λ none. omega (arith, c.if-ps-lt-FEWEST_TERMS.false, none))
    (λ none. omega (arith, c.if-qs-lt-FEWEST_TERMS.false, none))).1
