-- What the code's own refusals stand for: none where memory ran out.
--     target_overflow_of e    the target that overflows, and the kind
use Rattle.std.specs.Prelude.{Option, Some, None}
use Rattle.ct_run.specs.declared.reductions.TargetFault.{TargetFault}
use Rattle.ct_run.specs.declared.reductions.TargetFault.TheVariants as target
use Rattle.ct_run.specs.Reducing.{TargetOverflow}

abbrev pub target_overflow_of : TargetFault → Option TargetOverflow
target_overflow_of (target.Overflow place kind) = Some (place, kind)
target_overflow_of target.NoMemory = None
