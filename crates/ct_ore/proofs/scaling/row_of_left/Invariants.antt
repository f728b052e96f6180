use Rattle.ct_ore.proofs.Base.{◌≡◌, ◌∷◌, [], ◌++◌, length}
use Rattle.ct_ore.specs.PairTerms.{multiplied}
use Rattle.ct_ore.specs.Bounds.{CanScale}
use Rattle.ct_ore.proofs.scaling.row_of_left.Given as goal

abbrev pub invariant-multiplying : goal.invariant-multiplying
invariant-multiplying l = record {
  can : CanScale ((l.u.mono, l.u.coef) ∷ []) l.rest;
  whole : l.out.items ++ multiplied l.u.mono l.u.coef l.rest ≡ multiplied l.u.mono l.u.coef l.fn.ts;
}

abbrev pub decreases-multiplying : goal.decreases-multiplying
decreases-multiplying l = length l.rest
