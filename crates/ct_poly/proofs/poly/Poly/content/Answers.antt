use Rattle.ct_poly.proofs.Base.{◌≡◌, subst, arith}
use Rattle.ct_poly.specs.Content.{IsContentOf, content}
use Rattle.ct_poly.proofs.Contents.{content_only, content_small}
use Rattle.ct_poly.proofs.poly.Poly.content.Goals as goal

pub returns-clause-value : goal.returns-clause-value
returns-clause-value c =
    content_only c.args.self.now c.content_of_terms.result
    (subst (λ es. IsContentOf es c.content_of_terms.result) c.terms.ensures c.content_of_terms.ensures)

pub returns-clause-within : goal.returns-clause-within
returns-clause-within c =
    let value : c.content_of_terms.result ≡ content c.args.self.now = returns-clause-value c in
    omega (arith, value, content_small c.args.self.now, c.within_limits.ensures.small)
