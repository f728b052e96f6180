use Rattle.ct_poly.proofs.Base.{sym, arith}
use Rattle.ct_poly.proofs.TermLists.{count_of-terms}
use Rattle.ct_poly.proofs.OverflowRules.{sum_too_many, sum_too_large, sum_fits}
use Rattle.ct_poly.proofs.poly.Poly.fits_sum.Goals as goal

pub returns-then-len-gt-MOST_TERMS : goal.returns-then-len-gt-MOST_TERMS
returns-then-len-gt-MOST_TERMS c =
    let mine = count_of-terms c.self.inside.terms.items c.self.invariant.0 c.self.view_is in
    let its = count_of-terms c.other.inside.terms.items c.other.invariant.0 c.other.view_is in
    sym (sum_too_many _ _ (omega (arith, mine, its)))

pub returns-then-norm-gt-LARGEST_NORM : goal.returns-then-norm-gt-LARGEST_NORM
returns-then-norm-gt-LARGEST_NORM c =
    let mine = count_of-terms c.self.inside.terms.items c.self.invariant.0 c.self.view_is in
    let its = count_of-terms c.other.inside.terms.items c.other.invariant.0 c.other.view_is in
    sym (sum_too_large _ _ (omega (arith, mine, its)) (omega (arith, c.norm.ensures.value, c.norm-2.ensures.value)))

pub returns : goal.returns
returns c =
    let mine = count_of-terms c.self.inside.terms.items c.self.invariant.0 c.self.view_is in
    let its = count_of-terms c.other.inside.terms.items c.other.invariant.0 c.other.view_is in
    sym (sum_fits _ _ (omega (arith, mine, its)) (omega (arith, c.norm.ensures.value, c.norm-2.ensures.value)))
