use Rattle.ct_linsolve.proofs.Base.{◌≤◌, length, largest_norm}
use Rattle.ct_linsolve.proofs.RowContents.{IsGathering}
use Rattle.ct_linsolve.proofs.entries.content_of.Given as goal

-- what divides the number so far and the coefficients of the rest divides all
abbrev pub invariant-gathering : goal.invariant-gathering
invariant-gathering l = IsGathering l.fn.row l.divisor l.rest × (l.divisor ≤ largest_norm)

abbrev pub decreases-gathering : goal.decreases-gathering
decreases-gathering l = length l.rest
