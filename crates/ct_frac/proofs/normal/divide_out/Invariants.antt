use Rattle.ct_frac.proofs.Base.{◌≡◌}
use Rattle.ct_frac.specs.Normal.{divided_out}
use Rattle.ct_frac.proofs.normal.divide_out.Given as goal

abbrev pub invariant-dividing : goal.invariant-dividing
invariant-dividing l = divided_out l.by l.fn.n l.fn.exponent ≡ divided_out l.by l.numerator l.left

abbrev pub decreases-dividing : goal.decreases-dividing
decreases-dividing l = l.left
