use Rattle.ct_ore.proofs.Base.{◌≡◌, ◌≤◌, max, map, length, degree, largest_degree}
use Rattle.ct_ore.specs.Terms.{op_entries}
use Rattle.ct_ore.specs.Measures.{greatest}
use Rattle.ct_ore.proofs.degrees.degree_of.Given as goal

abbrev pub invariant-searching : goal.invariant-searching
invariant-searching l = record {
  most : max l.most (greatest (map (λ e. degree e.1) (op_entries l.rest))) ≡ greatest (map (λ e. degree e.1) (op_entries l.fn.ps));
  within : l.most ≤ largest_degree;
}

abbrev pub decreases-searching : goal.decreases-searching
decreases-searching l = length l.rest
