use Rattle.ct_poly.proofs.Base.{◌≡◌, neg_ℤ, arith, FitsSigned, rules, ◌∙◌, w128, to_z-of_z, IfOk-weaker}
use Rattle.ct_poly.proofs.DivisionLists.{can_step, merge_small, rest_is_listed}
use Rattle.ct_poly.proofs.division.rest_without.Goals as goal

pub sum_with_multiple-requires-clause-second : goal.sum_with_multiple-requires-clause-second
sum_with_multiple-requires-clause-second c =
    let mine : FitsSigned w128 c.args.u.now.coef = search rules in
    let fits : FitsSigned w128 c.negative_of_coef.result = search rules in
    let negative : c.negative_of_coef.result ≡ neg_ℤ c.args.u.now.coef = simp to_z-of_z at c.negative_of_coef.ensures in
    can_step c.in-Some.ensures.cases.0 c.in-Some-split_first.ensures.cases.0 c.requires.falling c.requires.next _ (to_z-of_z w128 _ fits ∙ negative)
    (omega (arith, c.total.ensures.value, c.total.ensures.within)) c.requires.small

pub sum_with_multiple-requires-clause-small : goal.sum_with_multiple-requires-clause-small
sum_with_multiple-requires-clause-small c =
    let mine : FitsSigned w128 c.args.u.now.coef = search rules in
    let fits : FitsSigned w128 c.negative_of_coef.result = search rules in
    let negative : c.negative_of_coef.result ≡ neg_ℤ c.args.u.now.coef = simp to_z-of_z at c.negative_of_coef.ensures in
    merge_small c.in-Some.ensures.cases.0 c.in-Some-split_first.ensures.cases.0 c.requires.falling c.requires.next _
    (to_z-of_z w128 _ fits ∙ negative) c.requires.small

pub returns : goal.returns
returns c =
    let mine : FitsSigned w128 c.args.u.now.coef = search rules in
    let fits : FitsSigned w128 c.negative_of_coef.result = search rules in
    let negative : c.negative_of_coef.result ≡ neg_ℤ c.args.u.now.coef = simp to_z-of_z at c.negative_of_coef.ensures in
    IfOk-weaker c.sum_with_multiple.result _ _
    (λ v sum. rest_is_listed c.in-Some.ensures.cases.0 c.in-Some-split_first.ensures.cases.0 c.requires.falling c.requires.next _ v.items
    (to_z-of_z w128 _ fits ∙ negative) sum)
    c.sum_with_multiple.ensures
