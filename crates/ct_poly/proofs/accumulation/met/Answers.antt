use Rattle.ct_poly.proofs.Base.{◌≡◌, ◌∙◌, sym, true, ◌+ℤ◌, is_eq, inl, FitsSigned, rules, w128, to_z-of_z}
use Rattle.ct_poly.proofs.MergedMultiples.{tied_is}
use Rattle.ct_poly.proofs.accumulation.met.Goals as goal

pub returns-then-is_eq : goal.returns-then-is_eq
returns-then-is_eq c =
    let first : FitsSigned w128 c.in-Some.a.now.coef = search rules in
    let second : FitsSigned w128 c.args.product.now.coef = search rules in
    let fits : FitsSigned w128 c.sum_of_coefs.result = search rules in
    let sum : c.sum_of_coefs.result ≡ c.in-Some.a.now.coef +ℤ c.args.product.now.coef = simp to_z-of_z at c.sum_of_coefs.ensures in
    let told : is_eq c.cmp.result ≡ true = search rules in
    inl (record {
      head = c.in-Some.a.now;
      full = c.in-Some.ensures.cases.0;
      tied = sym c.cmp.ensures ∙ tied_is c.cmp.result told;
      sum = to_z-of_z w128 _ fits ∙ sum;
    })
