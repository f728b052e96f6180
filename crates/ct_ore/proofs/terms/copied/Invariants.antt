use Rattle.ct_ore.proofs.Base.{◌≡◌, ◌++◌, length}
use Rattle.ct_ore.specs.Terms.{op_entries}
use Rattle.ct_ore.proofs.terms.copied.Given as goal

abbrev pub invariant-copying : goal.invariant-copying
invariant-copying l = op_entries l.out.items ++ op_entries l.rest ≡ op_entries l.fn.ts

abbrev pub decreases-copying : goal.decreases-copying
decreases-copying l = length l.rest
