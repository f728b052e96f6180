use Rattle.ct_ore.proofs.Base.{length}
use Rattle.ct_ore.specs.Naming.{actions_of}
use Rattle.ct_ore.specs.PairMeasures.{symbols_measure}
use Rattle.ct_ore.specs.Bounds.{IsSumming}
use Rattle.ct_ore.proofs.measures.measure_of_symbols.Given as goal

abbrev pub invariant-measuring : goal.invariant-measuring
invariant-measuring l =
    IsSumming (symbols_measure (actions_of l.algebra) l.weigh l.m l.fn.qs) (symbols_measure (actions_of l.algebra) l.weigh l.m l.rest) l.sum

abbrev pub decreases-measuring : goal.decreases-measuring
decreases-measuring l = length l.rest
