use Rattle.ct_ore.proofs.Base.{◌≡◌, ◌++◌, ◌<◌}
use Rattle.ct_ore.specs.Naming.{action_of}
use Rattle.ct_ore.specs.PairTerms.{listed, lowered_term}
use Rattle.ct_ore.specs.Kinds.{how_many, ways}
use Rattle.ct_ore.proofs.product.append_raised.Given as goal

abbrev pub invariant-loop-j : goal.invariant-loop-j
invariant-loop-j l = record {
  made : l.out.items ≡ l.initial.out.items ++ listed l.j (lowered_term (action_of l.action) l.i l.k l.t);
  this : l.j < how_many (action_of l.action) l.k l.e → l.way ≡ ways (action_of l.action) l.k l.e l.j;
}
