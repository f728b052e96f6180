use Rattle.ct_frac.proofs.Base.{◌≡◌, length}
use Rattle.ct_frac.specs.Arithmetic.{exponent_in}
use Rattle.ct_frac.proofs.insertion.exponent_of.Given as goal

abbrev pub invariant-seeking : goal.invariant-seeking
invariant-seeking l = exponent_in l.poly l.fn.factors ≡ exponent_in l.poly l.rest

abbrev pub decreases-seeking : goal.decreases-seeking
decreases-seeking l = length l.rest
