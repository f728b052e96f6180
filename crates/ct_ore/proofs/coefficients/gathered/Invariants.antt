use Rattle.ct_ore.proofs.Base.{length}
use Rattle.ct_ore.specs.Lists.{IsGathering}
use Rattle.ct_ore.proofs.coefficients.gathered.Given as goal

abbrev pub invariant-gathering : goal.invariant-gathering
invariant-gathering l = IsGathering l.fn.ts l.out.items l.rest

abbrev pub decreases-gathering : goal.decreases-gathering
decreases-gathering l = length l.rest
