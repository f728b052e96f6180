use Rattle.ct_border.proofs.Base.{◌≡◌, ◌++◌, length}
use Rattle.ct_border.specs.Build.{unit_at}
use Rattle.ct_border.proofs.forms.unit_at.Given as goal

abbrev pub invariant-filling : goal.invariant-filling
invariant-filling l = l.v.items ++ unit_at l.rest l.m ≡ unit_at l.fn.basis l.m

abbrev pub decreases-filling : goal.decreases-filling
decreases-filling l = length l.rest
