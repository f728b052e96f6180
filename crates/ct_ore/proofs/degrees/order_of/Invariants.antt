use Rattle.ct_ore.proofs.Base.{◌≡◌, ◌≤◌, max, map, length, total, largest_degree}
use Rattle.ct_ore.specs.Terms.{op_entries}
use Rattle.ct_ore.specs.Measures.{greatest}
use Rattle.ct_ore.proofs.degrees.order_of.Given as goal

abbrev pub invariant-searching : goal.invariant-searching
invariant-searching l = record {
  most : max l.most (greatest (map (λ e. total e.0) (op_entries l.rest))) ≡ greatest (map (λ e. total e.0) (op_entries l.fn.ps));
  within : l.most ≤ largest_degree;
}

abbrev pub decreases-searching : goal.decreases-searching
decreases-searching l = length l.rest
