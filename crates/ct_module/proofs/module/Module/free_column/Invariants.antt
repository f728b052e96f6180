use Rattle.ct_module.proofs.Base.{◌-◌}
use Rattle.ct_module.specs.Columns.{symbols_of}
use Rattle.ct_module.proofs.FreeColumns.{LeadsTo, symbols_from}
use Rattle.ct_module.proofs.module.Module.free_column.Given as goal

abbrev pub invariant-acting : goal.invariant-acting
invariant-acting l = LeadsTo l.algebra l.self l.fn.start (symbols_of l.m) l.v.items (symbols_from l.m l.i (6 - l.i))
