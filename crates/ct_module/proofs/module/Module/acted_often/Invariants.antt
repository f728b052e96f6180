use Rattle.ct_module.proofs.Base.{name_with}
use Rattle.std.specs.Prelude.{replicate}
use Rattle.ct_module.proofs.FreeColumns.{LeadsTo}
use Rattle.ct_module.proofs.module.Module.acted_often.Given as goal

abbrev pub invariant-acting : goal.invariant-acting
invariant-acting l =
    LeadsTo l.algebra l.self l.fn.start.items (replicate l.fn.times (name_with l.i)) l.v.items (replicate l.left (name_with l.i))

abbrev pub decreases-acting : goal.decreases-acting
decreases-acting l = l.left
