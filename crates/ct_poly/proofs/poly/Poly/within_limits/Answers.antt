use Rattle.ct_poly.proofs.Base.{arith}
use Rattle.ct_poly.proofs.TermLists.{count_of-terms, norm_of-terms}
use Rattle.ct_poly.proofs.poly.Poly.within_limits.Goals as goal

pub returns-clause-few : goal.returns-clause-few
returns-clause-few c =
    omega (arith, c.self.invariant.1, count_of-terms c.self.inside.terms.items c.self.invariant.0 c.self.view_is)

pub returns-clause-small : goal.returns-clause-small
returns-clause-small c =
    omega (arith, c.self.invariant.2, norm_of-terms c.self.inside.terms.items c.self.invariant.0 c.self.view_is)
