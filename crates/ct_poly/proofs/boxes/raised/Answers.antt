use Rattle.ct_poly.proofs.Base.{sym, ap, subst, arith, exp, Divides, exp-with_exponent_same}
use Rattle.ct_poly.proofs.BoundingBoxes.{divides_self, divides_greater}
use Rattle.ct_poly.proofs.boxes.raised.Goals as goal

pub returns-then-e-exp : goal.returns-then-e-exp
returns-then-e-exp c = (omega (arith, c.if-e-exp.true, c.exp.ensures), divides_self c.args.m.now)

pub returns : goal.returns
returns c =
    let known = c.requires.known in (
      omega (arith, ap (λ w. exp w c.args.i) c.with_exp.ensures, exp-with_exponent_same c.args.i c.args.e c.args.m.now known),
      subst (Divides c.args.m.now) (sym c.with_exp.ensures)
          (divides_greater c.args.i c.args.e c.args.m.now known (omega (arith, c.if-e-exp.false, c.exp.ensures))),
    )
