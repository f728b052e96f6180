use Rattle.ct_poly.proofs.Base.{◌≡◌, refl, [], ◌∷◌, ◌++◌, rules}
use Rattle.ct_poly.proofs.Parts.{chosen, left_out, choosing_ended}
use Rattle.ct_poly.proofs.part.part_of_terms.Goals as goal

pub choosing-preserved-in_ok-push : goal.choosing-preserved-in_ok-push
choosing-preserved-in_ok-push c =
    let pushed : c.push.new.self.items ≡ c.choosing.out.items ++ record { mono = c.without_names-others.result; coef = c.in-Some.t.now.coef } ∷ [] =
    search rules in
    chosen c.in-Some.ensures.cases.0 c.without_names-others.ensures (c.if-is_product.ensures.0 refl) pushed c.choosing.invariant

pub choosing-preserved : goal.choosing-preserved
choosing-preserved c =
    left_out c.in-Some.ensures.cases.0 c.without_names-others.ensures (λ product. let wrong = c.if-is_product.ensures.1 product in
    cc) c.choosing.invariant

pub returns : goal.returns
returns c = choosing_ended c.in_default.ensures.cases c.choosing.invariant
