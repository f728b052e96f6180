use Rattle.ct_ore.proofs.Base.{exp, place}
use Rattle.ct_ore.specs.AllNames.{over_below}
use Rattle.ct_ore.specs.Naming.{actions_of}
use Rattle.ct_ore.specs.PairMeasures.{name_measure}
use Rattle.ct_ore.specs.Bounds.{IsCapped}
use Rattle.ct_ore.proofs.measures.measure_of_names.Given as goal

abbrev pub invariant-loop-i : goal.invariant-loop-i
invariant-loop-i l =
    IsCapped (over_below l.i (λ j. name_measure l.weigh (actions_of l.algebra j) (exp l.m (place j)) (exp l.n (place j)))) l.product
