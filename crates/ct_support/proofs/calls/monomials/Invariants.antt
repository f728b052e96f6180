use Rattle.ct_support.proofs.Base.{◌≡◌}
use Rattle.ct_support.specs.ColumnCount.{monomial_count}
use Rattle.ct_support.proofs.calls.monomials.Given as goal

abbrev pub invariant-loop-n : goal.invariant-loop-n
invariant-loop-n l = l.number ≡ monomial_count l.n l.degree
