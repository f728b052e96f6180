use Rattle.ct_linsolve.proofs.Base.{◌≡◌, ◌+◌, range_with_len}
use Rattle.std.specs.List.{fold}
use Rattle.ct_linsolve.specs.Slimming.{IsNonzero, without_entry}
use Rattle.ct_linsolve.proofs.slimming.without_entries.Given as goal

abbrev pub invariant-dividing : goal.invariant-dividing
invariant-dividing l =
    (fold without_entry l.fn.row.items (range_with_len 0 l.width) ≡ fold without_entry l.done.items (range_with_len l.column l.left))
    × (l.column + l.left ≡ l.width) × IsNonzero l.done.items

abbrev pub decreases-dividing : goal.decreases-dividing
decreases-dividing l = l.left
