use Rattle.ct_ore.proofs.Base.{length, ◌+◌}
use Rattle.ct_ore.proofs.MergeSteps.{IsMerging}
use Rattle.ct_ore.proofs.sum.merge.Given as goal

abbrev pub invariant-merging : goal.invariant-merging
invariant-merging l = IsMerging l.fn.ps l.fn.qs l.out.items l.p l.q

abbrev pub decreases-merging : goal.decreases-merging
decreases-merging l = length l.p + length l.q
