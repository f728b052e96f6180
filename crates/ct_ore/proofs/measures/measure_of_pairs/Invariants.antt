use Rattle.ct_ore.proofs.Base.{length}
use Rattle.ct_ore.specs.Naming.{actions_of}
use Rattle.ct_ore.specs.Terms.{op_entries}
use Rattle.ct_ore.specs.Bounds.{IsSumming}
use Rattle.ct_ore.proofs.PairSums.{together}
use Rattle.ct_ore.proofs.measures.measure_of_pairs.Given as goal

abbrev pub invariant-measuring : goal.invariant-measuring
invariant-measuring l =
    IsSumming (together (actions_of l.algebra) l.weigh l.qs (op_entries l.fn.ps))
    (together (actions_of l.algebra) l.weigh l.qs (op_entries l.rest)) l.sum

abbrev pub decreases-measuring : goal.decreases-measuring
decreases-measuring l = length l.rest
