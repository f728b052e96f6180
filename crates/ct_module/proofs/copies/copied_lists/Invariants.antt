use Rattle.ct_module.proofs.Base.{◌≡◌, ◌++◌, length}
use Rattle.ct_module.specs.Views.{lists_in}
use Rattle.ct_module.proofs.copies.copied_lists.Given as goal

abbrev pub invariant-copying : goal.invariant-copying
invariant-copying l = lists_in l.copy.items ++ lists_in l.rest ≡ lists_in l.fn.lists

abbrev pub decreases-copying : goal.decreases-copying
decreases-copying l = length l.rest
