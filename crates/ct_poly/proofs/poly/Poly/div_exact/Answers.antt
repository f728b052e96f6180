use Rattle.ct_poly.proofs.DivisionLaws.{division_exact}
use Rattle.ct_poly.proofs.poly.Poly.div_exact.Goals as goal

pub returns-clause-exact : goal.returns-clause-exact
returns-clause-exact c = division_exact c.args.self.now c.args.by.now c.divide.result c.requires c.divide.ensures
