use Rattle.ct_ore.proofs.product.+expanded_below.Given as goal

abbrev pub decreases-expanded_below : goal.decreases-expanded_below
decreases-expanded_below l = l.count
