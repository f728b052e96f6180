use Rattle.ct_poly.proofs.TermLists.{no_terms}
use Rattle.ct_poly.proofs.poly.Poly.zero.Goals as goal

pub returns : goal.returns
returns c = no_terms c.new.result.items c.new.ensures.items
