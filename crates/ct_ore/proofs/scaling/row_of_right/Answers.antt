use Rattle.ct_ore.proofs.Base.{◌≡◌, ◌++◌, List, ◌∷◌, [], ◌∙◌, sym, ap, rules, refl, append_assoc, append-nil, Term, entries}
use Rattle.ct_ore.specs.declared.coefficient_term.CoefficientTerm.{CoefficientTerm}
use Rattle.ct_ore.specs.PairTerms.{multiplied_by}
use Rattle.ct_ore.proofs.Multiples.{scale_left, scale_heads}
use Rattle.ct_ore.proofs.SortedSums.{no_length}
use Rattle.ct_ore.proofs.scaling.row_of_right.Goals as goal

pub product_of_both-product-requires : goal.product_of_both-product-requires
product_of_both-product-requires c =
    let heads = scale_heads (c.in-Some.u.now.mono, c.in-Some.u.now.coef) c.args.t.now
    (ap entries c.in-Some.ensures.cases.0) refl c.multiplying.invariant.can in
    record { low = heads.0; small = heads.1 }

pub multiplying-preserved : goal.multiplying-preserved
multiplying-preserved c =
    let times : List Term → List CoefficientTerm = λ us. multiplied_by (entries us) (c.args.t.now ∷ []) in
    let made : c.push.new.self.items ≡ c.multiplying.out.items ++ times (c.in-Some.u.now ∷ []) =
    (search rules) ∙ ap (λ t. c.multiplying.out.items ++ t ∷ []) c.product_of_both-product.ensures in record {
      can = (scale_left (entries (c.in-Some.u.now ∷ [])) (entries c.in-Some.more.now)
          (ap entries c.in-Some.ensures.cases.0) c.multiplying.invariant.can).1;
      whole = ap (λ us. us ++ times c.in-Some.more.now) made
          ∙ append_assoc c.multiplying.out.items (times (c.in-Some.u.now ∷ [])) (times c.in-Some.more.now)
          ∙ ap (λ us. c.multiplying.out.items ++ times us) (sym c.in-Some.ensures.cases.0) ∙ c.multiplying.invariant.whole;
    }

pub returns : goal.returns
returns c =
    sym (append-nil c.multiplying.out.items) ∙ ap (λ us. c.multiplying.out.items ++ multiplied_by (entries us) (c.args.t.now ∷ []))
    (sym (no_length c.multiplying.rest.now c.in_default.ensures.cases)) ∙ c.multiplying.invariant.whole
