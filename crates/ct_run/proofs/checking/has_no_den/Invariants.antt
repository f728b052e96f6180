use Rattle.ct_run.proofs.Base.{◌≡◌, length}
use Rattle.std.specs.List.{list_all}
use Rattle.std.specs.Option.{is_none}
use Rattle.ct_run.proofs.checking.has_no_den.Given as goal

-- what is left decides
abbrev pub invariant-looking : goal.invariant-looking
invariant-looking l = list_all is_none l.dens ≡ list_all is_none l.rest

abbrev pub decreases-looking : goal.decreases-looking
decreases-looking l = length l.rest
