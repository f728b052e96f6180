use Rattle.ct_module.proofs.Base.{◌≡◌, ◌++◌, length}
use Rattle.ct_module.proofs.copies.copied.Given as goal

abbrev pub invariant-copying : goal.invariant-copying
invariant-copying l = l.copy.items ++ l.rest ≡ l.fn.v

abbrev pub decreases-copying : goal.decreases-copying
decreases-copying l = length l.rest
