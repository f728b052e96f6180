use Rattle.ct_poly.proofs.Crossings.{cross_quotients_fit}
use Rattle.ct_poly.proofs.laws.cross_quotients_fit_where_measures_do.Goals as goal

pub returns : goal.returns
returns c = cross_quotients_fit
