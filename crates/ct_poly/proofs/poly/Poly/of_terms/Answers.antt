use Rattle.ct_poly.proofs.Base.{terms-poly_of}
use Rattle.ct_poly.specs.Terms.{entries, poly_of_terms}
use Rattle.ct_poly.proofs.poly.Poly.of_terms.Goals as goal

pub returns : goal.returns
unfolding poly_of_terms
returns c = terms-poly_of (entries c.args.terms.items) c.requires.falling
