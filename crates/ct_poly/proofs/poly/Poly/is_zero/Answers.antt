use Rattle.ct_poly.proofs.Base.{arith}
use Rattle.std.proofs.lemmas.Grind.{common_steps}
use Rattle.ct_poly.proofs.TermLists.{is_none}
use Rattle.ct_poly.proofs.poly.Poly.is_zero.Goals as goal

pub returns : goal.returns
returns c =
    let none = is_none c.self.inside.terms.items c.self.invariant.0 c.self.view_is in
    grind (arith, common_steps, none.0, none.1)
