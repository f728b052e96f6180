use Rattle.ct_cert.proofs.Base.{Ok, ap, sym, actions_of, Shift, Derive, Still, summand_of}
use Rattle.ct_cert.proofs.ByAction.{coefficient_for}
use Rattle.ct_cert.proofs.arithmetic.coefficient.Goals as goal

pub returns-in-Shift : goal.returns-in-Shift
returns-in-Shift c = coefficient_for (actions_of c.args.algebra.now) Shift
    (summand_of c.args.part.now) c.in-Shift.ensures c.shift.result c.shift.ensures

pub returns-in-Derive : goal.returns-in-Derive
returns-in-Derive c =
    coefficient_for (actions_of c.args.algebra.now) Derive (summand_of c.args.part.now) c.in-Derive.ensures c.derive.result c.derive.ensures

pub returns-in-Still : goal.returns-in-Still
returns-in-Still c =
    coefficient_for (actions_of c.args.algebra.now) Still (summand_of c.args.part.now) c.in-Still.ensures (Ok c.zero.result)
    (ap Ok (sym c.zero.ensures))
