use Rattle.ct_ore.proofs.Base.{sym}
use Rattle.ct_ore.proofs.ProductRules.{none_fits, fits_none}
use Rattle.ct_ore.proofs.laws.product_fits_where_measures_do.Goals as goal

pub returns : goal.returns
returns c = λ a p q left right. (λ none. none_fits a p q left right (sym none), fits_none a p q left right)
