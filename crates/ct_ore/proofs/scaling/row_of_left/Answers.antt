use Rattle.ct_ore.proofs.Base.{◌≡◌, ◌++◌, ◌∷◌, [], ◌∙◌, sym, ap, rules, refl, append_assoc, append-nil}
use Rattle.ct_ore.specs.PairTerms.{multiplied}
use Rattle.ct_ore.proofs.Multiples.{scale_right, scale_heads}
use Rattle.ct_ore.proofs.SortedSums.{no_length}
use Rattle.ct_ore.proofs.scaling.row_of_left.Goals as goal

pub product_of_both-product-requires : goal.product_of_both-product-requires
product_of_both-product-requires c =
    let heads = scale_heads (c.args.u.now.mono, c.args.u.now.coef) c.in-Some.t.now refl c.in-Some.ensures.cases.0 c.multiplying.invariant.can in
    record { low = heads.0; small = heads.1 }

pub multiplying-preserved : goal.multiplying-preserved
multiplying-preserved c =
    let times = multiplied c.args.u.now.mono c.args.u.now.coef in
    let made : c.push.new.self.items ≡ c.multiplying.out.items ++ times (c.in-Some.t.now ∷ []) =
    (search rules) ∙ ap (λ t. c.multiplying.out.items ++ t ∷ []) c.product_of_both-product.ensures in record {
      can = (scale_right (c.in-Some.t.now ∷ []) c.in-Some.more.now c.in-Some.ensures.cases.0 c.multiplying.invariant.can).1;
      whole = ap (λ us. us ++ times c.in-Some.more.now) made
          ∙ append_assoc c.multiplying.out.items (times (c.in-Some.t.now ∷ [])) (times c.in-Some.more.now)
          ∙ ap (λ ts. c.multiplying.out.items ++ times ts) (sym c.in-Some.ensures.cases.0) ∙ c.multiplying.invariant.whole;
    }

pub returns : goal.returns
returns c =
    sym (append-nil c.multiplying.out.items) ∙ ap (λ ts. c.multiplying.out.items ++ multiplied c.args.u.now.mono c.args.u.now.coef ts)
    (sym (no_length c.multiplying.rest.now c.in_default.ensures.cases)) ∙ c.multiplying.invariant.whole
