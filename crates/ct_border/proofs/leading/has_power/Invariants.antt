use Rattle.ct_border.proofs.Base.{◌≡◌, length, name_with}
use Rattle.ct_border.specs.Staircase.{has_power}
use Rattle.ct_border.proofs.leading.has_power.Given as goal

abbrev pub invariant-seeking : goal.invariant-seeking
invariant-seeking l = has_power l.leading (name_with l.i) ≡ has_power l.rest (name_with l.i)

abbrev pub decreases-seeking : goal.decreases-seeking
decreases-seeking l = length l.rest
