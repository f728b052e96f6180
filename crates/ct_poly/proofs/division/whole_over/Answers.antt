use Rattle.ct_poly.proofs.Base.{◌≡◌, ◌*ℤ◌, ◌∙◌, ap, sym, arith, FitsSigned, int_div, rules, Some, w128, to_z-of_z}
use Rattle.ct_poly.proofs.WholeQuotients.{int_div_small, whole_quotient, no_whole_quotient}
use Rattle.ct_poly.proofs.division.whole_over.Goals as goal

pub product_of_coefs-requires : goal.product_of_coefs-requires
product_of_coefs-requires c =
    let first : FitsSigned w128 c.args.c = search rules in
    let second : FitsSigned w128 c.args.d = search rules in
    let fits : FitsSigned w128 c.quotient_of_coefs-quotient.result = search rules in
    let quotient : c.quotient_of_coefs-quotient.result ≡ int_div c.args.c c.args.d = simp to_z-of_z at c.quotient_of_coefs-quotient.ensures in
    rw (to_z-of_z w128 _ fits, to_z-of_z w128 _ second, quotient) (omega (arith, int_div_small c.args.c c.args.d, c.requires.small))

pub returns-then-product_of_coefs-c : goal.returns-then-product_of_coefs-c
returns-then-product_of_coefs-c c =
    let second : FitsSigned w128 c.args.d = search rules in
    let fits : FitsSigned w128 c.quotient_of_coefs-quotient.result = search rules in
    let product : c.product_of_coefs.result ≡ c.quotient_of_coefs-quotient.result *ℤ c.args.d = simp to_z-of_z at c.product_of_coefs.ensures in
    let equal : c.product_of_coefs.result ≡ c.args.c = search rules in
    ap Some (to_z-of_z w128 _ fits) ∙ whole_quotient c.args.c c.args.d c.quotient_of_coefs-quotient.result c.requires.nonzero (sym product ∙ equal)

pub returns-else-product_of_coefs-c : goal.returns-else-product_of_coefs-c
returns-else-product_of_coefs-c c =
    let first : FitsSigned w128 c.args.c = search rules in
    let second : FitsSigned w128 c.args.d = search rules in
    let fits : FitsSigned w128 c.quotient_of_coefs-quotient.result = search rules in
    let quotient : c.quotient_of_coefs-quotient.result ≡ int_div c.args.c c.args.d = simp to_z-of_z at c.quotient_of_coefs-quotient.ensures in
    let product : c.product_of_coefs.result ≡ c.quotient_of_coefs-quotient.result *ℤ c.args.d = simp to_z-of_z at c.product_of_coefs.ensures in
    let other : c.product_of_coefs.result ≡ c.args.c → ⊥ = search rules in
    no_whole_quotient c.args.c c.args.d c.quotient_of_coefs-quotient.result c.requires.nonzero quotient (λ whole. other (product ∙ whole))
