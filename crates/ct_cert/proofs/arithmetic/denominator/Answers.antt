use Rattle.ct_cert.proofs.Base.{actions_of, Shift, Derive, Still, summand_of}
use Rattle.ct_cert.proofs.ByAction.{denominator_for}
use Rattle.ct_cert.proofs.arithmetic.denominator.Goals as goal

pub returns-in-Shift : goal.returns-in-Shift
returns-in-Shift c = denominator_for (actions_of c.args.algebra.now) Shift
    (summand_of c.args.part.now) c.in-Shift.ensures c.shift_denominator.result c.shift_denominator.ensures

pub returns-in-Derive : goal.returns-in-Derive
returns-in-Derive c =
    denominator_for (actions_of c.args.algebra.now) Derive (summand_of c.args.part.now) c.in-Derive.ensures c.mul.result c.mul.ensures

pub returns-in-Still : goal.returns-in-Still
returns-in-Still c = denominator_for (actions_of c.args.algebra.now) Still
    (summand_of c.args.part.now) c.in-Still.ensures c.mul-in-Still.result c.mul-in-Still.ensures
