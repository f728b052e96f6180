use Rattle.ct_module.proofs.Base.{◌≡◌, ◌++◌}
use Rattle.std.specs.Prelude.{replicate}
use Rattle.ct_module.specs.Modules.{written_zero}
use Rattle.ct_module.proofs.image.zeros.Given as goal

abbrev pub invariant-filling : goal.invariant-filling
invariant-filling l = l.v.items ++ replicate l.left written_zero ≡ replicate l.fn.dimension written_zero

abbrev pub decreases-filling : goal.decreases-filling
decreases-filling l = l.left
