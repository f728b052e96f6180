use Rattle.ct_poly.proofs.OverflowRules.{product_fits, product_fits_only}
use Rattle.ct_poly.proofs.Values.{pairs_of_nonzero}
use Rattle.ct_poly.proofs.laws.product_fits_where_measures_do.Goals as goal

pub returns : goal.returns
returns c = λ p q first second.
    let some = pairs_of_nonzero p q first second in
    (λ none. let fits = product_fits_only p q some none in (fits.low, fits.few, fits.small), λ fits. product_fits p q some fits.0 fits.1 fits.2)
