use Rattle.ct_module.proofs.Base.{◌≡◌, length, All, checked_fold}
use Rattle.ct_frac.specs.FractionLaws.{EachIsWritten}
use Rattle.ct_module.specs.Columns.{checked_free_column}
use Rattle.ct_module.specs.Denominators.{checked_parts}
use Rattle.ct_ore.specs.Naming.{actions_of}
use Rattle.ct_telescoping.specs.Staircase.{HasOperators}
use Rattle.ct_module.proofs.SummedDenominators.{step}
use Rattle.ct_module.proofs.denominators.free_parts.Given as goal

abbrev pub invariant-forming : goal.invariant-forming
invariant-forming l =
    (checked_parts l.setting l.monomials ≡
    checked_fold (step l.setting.names (checked_free_column l.setting.names l.setting.space l.setting.space.start)) l.parts.items l.rest)
    × EachIsWritten l.parts.items × All (HasOperators (actions_of l.setting.names)) l.rest

abbrev pub decreases-forming : goal.decreases-forming
decreases-forming l = length l.rest
