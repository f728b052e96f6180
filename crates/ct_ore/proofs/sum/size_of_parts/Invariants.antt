use Rattle.ct_ore.proofs.Base.{◌≡◌, take}
use Rattle.ct_ore.specs.CoefficientTerms.{size_of}
use Rattle.ct_ore.proofs.sum.size_of_parts.Given as goal

abbrev pub invariant-loop-t : goal.invariant-loop-t
invariant-loop-t l = l.sum ≡ size_of (take l.t-index l.ts)
