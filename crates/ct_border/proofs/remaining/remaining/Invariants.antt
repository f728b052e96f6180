use Rattle.ct_border.proofs.Base.{◌≡◌, ◌≤◌, below, filter, largest_staircase, length}
use Rattle.ct_border.specs.Staircase.{is_left}
use Rattle.ct_border.proofs.remaining.remaining.Given as goal

abbrev pub invariant-loop-t : goal.invariant-loop-t
invariant-loop-t l = (l.found.items ≡ filter (is_left l.leading) (below l.names l.t)) × (length l.found.items ≤ largest_staircase)
