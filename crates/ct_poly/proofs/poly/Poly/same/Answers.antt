use Rattle.ct_poly.proofs.TermLists.{same_of-terms}
use Rattle.ct_poly.proofs.poly.Poly.same.Goals as goal

pub returns : goal.returns
returns c =
    let same = same_of-terms c.self.inside.terms.items c.other.inside.terms.items c.self.invariant.0 c.self.view_is c.other.invariant.0
    c.other.view_is in
    let answer = rw (c.as_slice.ensures.value, c.as_slice-2.ensures.value) at c.same_terms.ensures in
    (λ yes. same.0 (answer.0 yes), λ equal. answer.1 (same.1 equal))
