use Rattle.ct_linsolve.proofs.Base.{◌≡◌, length}
use Rattle.ct_linsolve.specs.Elimination.{crossed_entry, checked_crossed}
use Rattle.ct_linsolve.proofs.FromZero.{behind}
use Rattle.ct_linsolve.proofs.entries.crossed.Given as goal

abbrev pub invariant-crossing : goal.invariant-crossing
invariant-crossing l =
    checked_crossed l.column l.p l.a l.pivot l.row ≡ behind (crossed_entry l.column l.p l.a l.pivot) l.done.items l.rest

abbrev pub decreases-crossing : goal.decreases-crossing
decreases-crossing l = length l.rest
