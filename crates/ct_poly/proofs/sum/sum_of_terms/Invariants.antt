use Rattle.ct_poly.proofs.Base.{length, ◌+◌, monomials, int_group}
use Rattle.ct_poly.specs.Terms.{entry}
use Rattle.ct_poly.proofs.Merging.{IsMerging}
use Rattle.ct_poly.proofs.sum.sum_of_terms.Given as goal

abbrev pub invariant-merging : goal.invariant-merging
invariant-merging l = IsMerging monomials int_group entry l.fn.ps l.fn.qs l.out.items l.p l.q

abbrev pub decreases-merging : goal.decreases-merging
decreases-merging l = length l.p + length l.q
