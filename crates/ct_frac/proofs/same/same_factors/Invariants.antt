use Rattle.ct_frac.proofs.Base.{◌≡◌, ◌↔◌, length}
use Rattle.ct_frac.proofs.same.same_factors.Given as goal

abbrev pub invariant-comparing : goal.invariant-comparing
invariant-comparing l = (l.mine ≡ l.its) ↔ (l.fn.fs ≡ l.fn.gs)

abbrev pub decreases-comparing : goal.decreases-comparing
decreases-comparing l = length l.mine
