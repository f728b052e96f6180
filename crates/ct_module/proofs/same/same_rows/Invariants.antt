use Rattle.ct_module.proofs.Base.{◌≡◌, ◌↔◌, length}
use Rattle.ct_module.specs.Views.{rows_in}
use Rattle.ct_module.proofs.same.same_rows.Given as goal

abbrev pub invariant-comparing : goal.invariant-comparing
invariant-comparing l = (rows_in l.mine ≡ rows_in l.its) ↔ (rows_in l.fn.xs ≡ rows_in l.fn.ys)

abbrev pub decreases-comparing : goal.decreases-comparing
decreases-comparing l = length l.mine
