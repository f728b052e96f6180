use Rattle.ct_ore.proofs.Base.{◌≡◌, ◌∷◌, [], ◌++◌, length, entries}
use Rattle.ct_ore.specs.PairTerms.{multiplied_by}
use Rattle.ct_ore.specs.Bounds.{CanScale}
use Rattle.ct_ore.proofs.scaling.row_of_right.Given as goal

abbrev pub invariant-multiplying : goal.invariant-multiplying
invariant-multiplying l = record {
  can : CanScale (entries l.rest) (l.t ∷ []);
  whole : l.out.items ++ multiplied_by (entries l.rest) (l.t ∷ []) ≡ multiplied_by (entries l.fn.us) (l.t ∷ []);
}

abbrev pub decreases-multiplying : goal.decreases-multiplying
decreases-multiplying l = length l.rest
