use Rattle.ct_ore.proofs.Base.{refl, no_operator}
use Rattle.ct_ore.proofs.ProductRules.{zero_left_fits, zero_right_fits}
use Rattle.ct_ore.proofs.laws.product_with_zero_fits.Goals as goal

pub returns : goal.returns
returns c = λ a p. (zero_left_fits a no_operator p refl, zero_right_fits a p no_operator refl)
