use Rattle.ct_ore.proofs.Base.{◌≡◌, ◌↔◌, length}
use Rattle.ct_ore.specs.Terms.{op_entries}
use Rattle.ct_ore.proofs.terms.same_terms.Given as goal

abbrev pub invariant-comparing : goal.invariant-comparing
invariant-comparing l = (op_entries l.left ≡ op_entries l.right) ↔ (op_entries l.fn.ps ≡ op_entries l.fn.qs)

abbrev pub decreases-comparing : goal.decreases-comparing
decreases-comparing l = length l.left
