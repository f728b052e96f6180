use Rattle.ct_poly.proofs.Base.{◌≡◌, ◌∙◌, ap, sym, subst, ◌+◌, ◌≤◌, ◌++◌, [], ◌∷◌, pos, unsigned_abs, rules, ◌·◌, largest_norm}
use Rattle.ct_poly.specs.Accumulation.{EachAbove, Meets, count_above}
use Rattle.ct_poly.specs.Terms.{entries, size_of}
use Rattle.ct_poly.proofs.MergedMultiples.{IsSplit, times_term, accumulation_start, falling_left, meeting_small, product_pushed, product_gone}
use Rattle.ct_poly.proofs.MergedMultiples.{accumulation_ended}
use Rattle.ct_poly.proofs.accumulation.sum_with_multiple.Goals as goal

pub merging-init : goal.merging-init
merging-init c = accumulation_start c.requires.first c.requires.second c.in_ok-out.ensures.items

pub split_above-requires : goal.split_above-requires
split_above-requires c = falling_left c.merging.invariant

pub met-coef-requires-clause-small : goal.met-coef-requires-clause-small
met-coef-requires-clause-small c =
    let made : c.product_of_term-product.result ≡ times_term c.args.t.now c.in-Some.b.now = c.product_of_term-product.ensures in
    let split : IsSplit (c.args.t.now.mono · c.in-Some.b.now.mono) c.split_above.result.0.now c.split_above.result.1.now = record {
      above = subst (λ w. EachAbove w.mono (entries c.split_above.result.0.now)) made c.split_above.ensures.above;
      below = ap (λ w. count_above w.mono (entries c.split_above.result.1.now)) (sym made) ∙ c.split_above.ensures.below;
    } in
    subst (λ w. size_of c.split_above.result.1.now + unsigned_abs w.coef ≤ largest_norm) (sym made)
    (meeting_small c.in-Some.ensures.cases.0 c.merging.invariant c.split_above.ensures.whole split c.requires.small)

pub merging-preserved-in_ok-push : goal.merging-preserved-in_ok-push
merging-preserved-in_ok-push c =
    let made : c.product_of_term-product.result ≡ times_term c.args.t.now c.in-Some.b.now = c.product_of_term-product.ensures in
    let split : IsSplit (c.args.t.now.mono · c.in-Some.b.now.mono) c.split_above.result.0.now c.split_above.result.1.now = record {
      above = subst (λ w. EachAbove w.mono (entries c.split_above.result.0.now)) made c.split_above.ensures.above;
      below = ap (λ w. count_above w.mono (entries c.split_above.result.1.now)) (sym made) ∙ c.split_above.ensures.below;
    } in
    let meets : Meets c.split_above.result.1.now (times_term c.args.t.now c.in-Some.b.now) c.met-coef.result.0 c.met-coef.result.1.now =
    subst (λ w. Meets c.split_above.result.1.now w c.met-coef.result.0 c.met-coef.result.1.now) made c.met-coef.ensures in
    let some : c.met-coef.result.0 ≡ pos 0 → ⊥ = search rules in
    let pushed : c.push.new.self.items ≡ (c.merging.out.items ++ c.split_above.result.0.now) ++
    record { mono = c.product_of_term-product.result.mono; coef = c.met-coef.result.0 } ∷ [] = search rules in
    product_pushed c.in-Some.ensures.cases.0 c.merging.invariant c.split_above.ensures.whole split meets c.push.new.self.items some
    (pushed ∙ ap (λ w. (c.merging.out.items ++ c.split_above.result.0.now) ++ record { mono = w.mono; coef = c.met-coef.result.0 } ∷ []) made)

pub merging-preserved : goal.merging-preserved
merging-preserved c =
    let made : c.product_of_term-product.result ≡ times_term c.args.t.now c.in-Some.b.now = c.product_of_term-product.ensures in
    let split : IsSplit (c.args.t.now.mono · c.in-Some.b.now.mono) c.split_above.result.0.now c.split_above.result.1.now = record {
      above = subst (λ w. EachAbove w.mono (entries c.split_above.result.0.now)) made c.split_above.ensures.above;
      below = ap (λ w. count_above w.mono (entries c.split_above.result.1.now)) (sym made) ∙ c.split_above.ensures.below;
    } in
    let meets : Meets c.split_above.result.1.now (times_term c.args.t.now c.in-Some.b.now) c.met-coef.result.0 c.met-coef.result.1.now =
    subst (λ w. Meets c.split_above.result.1.now w c.met-coef.result.0 c.met-coef.result.1.now) made c.met-coef.ensures in
    let none : c.met-coef.result.0 ≡ pos 0 = search rules in
    let copied : c.extend_from_slice.new.self.items ≡ c.merging.out.items ++ c.split_above.result.0.now = search rules in
    product_gone c.in-Some.ensures.cases.0 c.merging.invariant c.split_above.ensures.whole split meets c.extend_from_slice.new.self.items none copied

pub returns : goal.returns
returns c =
    let all : c.extend_from_slice-2.new.self.items ≡ c.merging.out.items ++ c.merging.p.now = search rules in
    accumulation_ended c.requires.first c.requires.second c.in_default.ensures.cases all c.merging.invariant
