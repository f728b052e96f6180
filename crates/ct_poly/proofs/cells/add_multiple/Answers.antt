use Rattle.ct_poly.proofs.Base.{rules, ◌≡◌, ◌+◌, ◌+ℤ◌, ◌*ℤ◌, ◌≤◌, nat_abs, pos, slice_index_or, slice_set, FitsSigned, to_z, of_z, subst, sym, ap}
use Rattle.ct_poly.proofs.Base.{◌∙◌, w128, to_z-of_z, largest_norm}
use Rattle.ct_poly.proofs.AddedSpots.{IsAdding, sum_fits, one_added}
use Rattle.ct_poly.proofs.cells.add_multiple.Goals as goal

pub sum_of_coefs-requires : goal.sum_of_coefs-requires
sum_of_coefs-requires c =
    let one : FitsSigned w128 (slice_index_or c.adding.cells (c.args.base + c.in-Some.s.now.cell) (pos 0)) = search rules in
    let two : FitsSigned w128 c.in-Some.s.now.coef = search rules in
    let three : FitsSigned w128 c.args.coef = search rules in
    let four : FitsSigned w128 c.product_of_coefs-product.result = search rules in
    let product : c.product_of_coefs-product.result ≡ c.args.coef *ℤ c.in-Some.s.now.coef = simp to_z-of_z at c.product_of_coefs-product.ensures in
    let adding : IsAdding c.args.cells.now c.args.base c.args.coef c.args.spots.now c.adding.cells c.adding.left.now =
    subst (λ x. IsAdding c.args.cells.now c.args.base x c.args.spots.now c.adding.cells c.adding.left.now)
    (to_z-of_z w128 c.args.coef three) c.adding.invariant in
    let fits = sum_fits c.in-Some.ensures.cases.0 adding c.product_of_coefs-product.result product c.requires.small in
    subst (λ x. nat_abs x + nat_abs (to_z w128 (of_z w128 c.product_of_coefs-product.result)) ≤ largest_norm)
    (sym (to_z-of_z w128 (slice_index_or c.adding.cells (c.args.base + c.in-Some.s.now.cell) (pos 0)) one))
    (subst (λ y. nat_abs (slice_index_or c.adding.cells (c.args.base + c.in-Some.s.now.cell) (pos 0)) + nat_abs y ≤ largest_norm)
    (sym (to_z-of_z w128 c.product_of_coefs-product.result four)) fits)

pub adding-preserved : goal.adding-preserved
adding-preserved c =
    let one : FitsSigned w128 (slice_index_or c.adding.cells (c.args.base + c.in-Some.s.now.cell) (pos 0)) = search rules in
    let two : FitsSigned w128 c.in-Some.s.now.coef = search rules in
    let three : FitsSigned w128 c.args.coef = search rules in
    let four : FitsSigned w128 c.product_of_coefs-product.result = search rules in
    let five : FitsSigned w128 c.sum_of_coefs.result = search rules in
    let product : c.product_of_coefs-product.result ≡ c.args.coef *ℤ c.in-Some.s.now.coef = simp to_z-of_z at c.product_of_coefs-product.ensures in
    let sum : c.sum_of_coefs.result ≡ slice_index_or c.adding.cells (c.args.base + c.in-Some.s.now.cell)
    (pos 0) +ℤ c.product_of_coefs-product.result = simp to_z-of_z at c.sum_of_coefs.ensures in
    let adding : IsAdding c.args.cells.now c.args.base c.args.coef c.args.spots.now c.adding.cells c.adding.left.now =
    subst (λ x. IsAdding c.args.cells.now c.args.base x c.args.spots.now c.adding.cells c.adding.left.now)
    (to_z-of_z w128 c.args.coef three) c.adding.invariant in
    let next : IsAdding c.args.cells.now c.args.base c.args.coef c.args.spots.now
    (slice_set c.adding.cells (c.args.base + c.in-Some.s.now.cell) c.sum_of_coefs.result) c.in-Some.rest.now =
    one_added c.in-Some.ensures.cases.0 adding c.sum_of_coefs.result
    (sum ∙ ap (λ y. slice_index_or c.adding.cells (c.args.base + c.in-Some.s.now.cell) (pos 0) +ℤ y) product) in
    subst (λ x. IsAdding c.args.cells.now c.args.base x c.args.spots.now
    (slice_set c.adding.cells (c.args.base + c.in-Some.s.now.cell) (to_z w128 (of_z w128 c.sum_of_coefs.result))) c.in-Some.rest.now)
    (sym (to_z-of_z w128 c.args.coef three))
    (subst (λ y. IsAdding c.args.cells.now c.args.base c.args.coef c.args.spots.now
    (slice_set c.adding.cells (c.args.base + c.in-Some.s.now.cell) y) c.in-Some.rest.now) (sym (to_z-of_z w128 c.sum_of_coefs.result five)) next)
