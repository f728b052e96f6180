use Rattle.ct_expr.proofs.Base.{drop}
use Rattle.ct_expr.proofs.CoefficientOfOne.{IsLeft}
use Rattle.ct_expr.proofs.polynomial.coefficient_of_one.Given as goal

abbrev pub invariant-loop-term : goal.invariant-loop-term
invariant-loop-term l = IsLeft l.value (drop l.term-index l.term-items)
