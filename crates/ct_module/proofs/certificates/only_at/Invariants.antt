use Rattle.ct_module.proofs.Base.{◌≡◌, ◌+◌}
use Rattle.std.specs.Prelude.{replicate}
use Rattle.ct_module.specs.Modules.{written_zero}
use Rattle.ct_module.proofs.certificates.only_at.Given as goal

abbrev pub invariant-filling : goal.invariant-filling
invariant-filling l = l.v.items ≡ replicate l.counter written_zero
