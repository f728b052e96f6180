use Rattle.ct_ore.proofs.Base.{length}
use Rattle.ct_ore.proofs.SortedSums.{IsWalking}
use Rattle.ct_ore.proofs.sum.written_front.Given as goal

abbrev pub invariant-falling : goal.invariant-falling
invariant-falling l = IsWalking l.fn.ts l.last l.rest

abbrev pub decreases-falling : goal.decreases-falling
decreases-falling l = length l.rest
