use Rattle.ct_linsolve.proofs.Base.{◌≡◌, length}
use Rattle.std.specs.List.{fold}
use Rattle.ct_linsolve.specs.Slimming.{IsNonzero, without}
use Rattle.ct_linsolve.proofs.slimming.without_each.Given as goal

abbrev pub invariant-dividing : goal.invariant-dividing
invariant-dividing l = (fold without l.fn.row.items l.candidates ≡ fold without l.left.items l.rest) × IsNonzero l.left.items

abbrev pub decreases-dividing : goal.decreases-dividing
decreases-dividing l = length l.rest
