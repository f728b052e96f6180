use Rattle.ct_module.proofs.Base.{◌≡◌, ◌↔◌, length}
use Rattle.ct_module.specs.Views.{lists_in}
use Rattle.ct_module.proofs.same.same_lists.Given as goal

abbrev pub invariant-comparing : goal.invariant-comparing
invariant-comparing l = (lists_in l.mine ≡ lists_in l.its) ↔ (lists_in l.fn.xs ≡ lists_in l.fn.ys)

abbrev pub decreases-comparing : goal.decreases-comparing
decreases-comparing l = length l.mine
