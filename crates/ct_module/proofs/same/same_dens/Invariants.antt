use Rattle.ct_module.proofs.Base.{◌≡◌, ◌↔◌, length}
use Rattle.ct_module.proofs.same.same_dens.Given as goal

abbrev pub invariant-comparing : goal.invariant-comparing
invariant-comparing l = (l.mine ≡ l.its) ↔ (l.fn.xs ≡ l.fn.ys)

abbrev pub decreases-comparing : goal.decreases-comparing
decreases-comparing l = length l.mine
