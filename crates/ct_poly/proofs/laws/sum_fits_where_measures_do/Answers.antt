use Rattle.ct_poly.proofs.OverflowRules.{sum_fits, sum_fits_only}
use Rattle.ct_poly.proofs.laws.sum_fits_where_measures_do.Goals as goal

pub returns : goal.returns
returns c = λ p q. (λ none. let fits = sum_fits_only p q none in (fits.few, fits.small), λ fits. sum_fits p q fits.0 fits.1)
