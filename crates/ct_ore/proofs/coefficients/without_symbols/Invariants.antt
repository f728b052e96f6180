use Rattle.ct_ore.proofs.Base.{◌≡◌, map, take}
use Rattle.ct_ore.specs.Lists.{without_symbols}
use Rattle.ct_ore.proofs.coefficients.without_symbols.Given as goal

abbrev pub invariant-loop-t : goal.invariant-loop-t
invariant-loop-t l = l.out.items ≡ map without_symbols (take l.t-index l.ts)
