use Rattle.ct_module.proofs.Base.{length}
use Rattle.ct_ore.specs.Terms.{op_entries}
use Rattle.ct_module.proofs.Images.{IsSumming}
use Rattle.ct_module.proofs.module.Module.image.Given as goal

abbrev pub invariant-adding : goal.invariant-adding
invariant-adding l = IsSumming l.algebra l.self l.start l.op.terms l.sum.items (op_entries l.rest)

abbrev pub decreases-adding : goal.decreases-adding
decreases-adding l = length l.rest
