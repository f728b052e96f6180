use Rattle.ct_module.proofs.Base.{◌≡◌, ◌↔◌, length}
use Rattle.ct_ore.specs.Naming.{namings_of}
use Rattle.ct_module.proofs.same.same_names.Given as goal

abbrev pub invariant-comparing : goal.invariant-comparing
invariant-comparing l = (namings_of l.mine ≡ namings_of l.its) ↔ (namings_of l.fn.xs ≡ namings_of l.fn.ys)

abbrev pub decreases-comparing : goal.decreases-comparing
decreases-comparing l = length l.mine
