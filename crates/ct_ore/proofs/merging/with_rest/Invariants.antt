use Rattle.ct_ore.proofs.Base.{◌≡◌, ◌++◌, option_to_list, into_iter_items, into_iter_len}
use Rattle.ct_ore.proofs.merging.with_rest.Given as goal

abbrev pub invariant-moving : goal.invariant-moving
invariant-moving l =
    l.all.items ++ into_iter_items l.left ≡ l.fn.out.items ++ (option_to_list l.fn.first ++ into_iter_items l.fn.rest)

abbrev pub decreases-moving : goal.decreases-moving
decreases-moving l = into_iter_len l.left
