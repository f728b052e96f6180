use Rattle.ct_poly.proofs.Base.{◌≡◌, ◌+◌, ◌<◌, [], ◌∷◌, rules, arith, length, subst, subst₂, IfOk-weaker, plus}
use Rattle.ct_poly.specs.Terms.{size_of, poly_of_terms, IsListOf, CanMultiply}
use Rattle.ct_poly.proofs.Products.{product_of_none, product_of_one, product_of_halves, can_front, can_back, only_one, halves_small}
use Rattle.ct_poly.proofs.product.+product_by_halves.Goals as goal

pub returns-then-is_empty : goal.returns-then-is_empty
returns-then-is_empty t c = product_of_none c.args.ps.now c.args.qs.now c.new.result.items (search rules) (search rules)

pub multiple_of_terms-requires : goal.multiple_of_terms-requires
multiple_of_terms-requires t c =
    subst (λ p. CanMultiply p c.args.qs.now) (only_one c.args.ps.now c.index-ps-0.result (search rules) c.index-ps-0.is) c.requires

pub returns-then-ps-eq1 : goal.returns-then-ps-eq1
returns-then-ps-eq1 t c =
    let one : c.args.ps.now ≡ c.index-ps-0.result ∷ [] = only_one c.args.ps.now c.index-ps-0.result (search rules) c.index-ps-0.is in
    IfOk-weaker c.multiple_of_terms.result _ _
    (λ v l. product_of_one c.args.ps.now c.args.qs.now v.items c.index-ps-0.result one l)
    c.multiple_of_terms.ensures

pub product_by_halves-requires : goal.product_by_halves-requires
product_by_halves-requires t c =
    let some : 0 < length c.args.ps.now = search rules in (
      omega (arith, c.decreases, c.split_at.ensures.front_len, c.if-ps-eq1.false),
      can_front c.args.ps.now c.split_at.result.0.now c.split_at.result.1.now c.args.qs.now c.split_at.ensures.by_index.0 c.requires,
    )

pub product_by_halves-requires-2 : goal.product_by_halves-requires-2
product_by_halves-requires-2 t c =
    let some : 0 < length c.args.ps.now = search rules in (
      omega (arith, c.decreases, c.split_at.ensures.back_len, c.if-ps-eq1.false),
      can_back c.args.ps.now c.split_at.result.0.now c.split_at.result.1.now c.args.qs.now c.split_at.ensures.by_index.0 c.requires,
    )

pub sum_of_terms-requires-clause-small : goal.sum_of_terms-requires-clause-small
sum_of_terms-requires-clause-small t c =
    rw (c.as_slice.ensures.value, c.as_slice-2.ensures.value)
    (halves_small c.args.ps.now c.split_at.result.0.now c.split_at.result.1.now c.args.qs.now c.split_at.ensures.by_index.0 c.requires
    c.in_ok-left.left.items c.in_ok-right.right.items c.in_ok-left.ensures c.in_ok-right.ensures)

pub returns : goal.returns
returns t c =
    IfOk-weaker c.sum_of_terms.result _ _
    (λ v l. product_of_halves c.args.ps.now c.split_at.result.0.now c.split_at.result.1.now c.args.qs.now c.split_at.ensures.by_index.0 c.requires
    c.in_ok-left.left.items c.in_ok-right.right.items c.in_ok-left.ensures c.in_ok-right.ensures v.items
    (subst₂ (λ u w. IsListOf (plus (poly_of_terms u) (poly_of_terms w)) (length u + length w) (size_of u + size_of w) v.items)
    c.as_slice.ensures.value c.as_slice-2.ensures.value l))
    c.sum_of_terms.ensures
