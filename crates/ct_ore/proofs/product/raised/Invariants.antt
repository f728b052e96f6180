use Rattle.ct_ore.proofs.Base.{◌≡◌, ◌++◌, length}
use Rattle.ct_ore.specs.Naming.{action_of}
use Rattle.ct_ore.specs.PairTerms.{raised}
use Rattle.ct_ore.specs.Bounds.{CanRaise}
use Rattle.ct_ore.proofs.product.raised.Given as goal

abbrev pub invariant-raising : goal.invariant-raising
invariant-raising l = record {
  can : CanRaise (action_of l.action) l.i l.k l.rest;
  whole : l.out.items ++ raised (action_of l.action) l.i l.k l.rest ≡ raised (action_of l.action) l.i l.k l.fn.ts;
}

abbrev pub decreases-raising : goal.decreases-raising
decreases-raising l = length l.rest
