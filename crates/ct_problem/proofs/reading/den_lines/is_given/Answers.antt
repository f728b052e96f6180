use Rattle.ct_problem.proofs.Base.{rules, arith, common_steps}
use Rattle.ct_problem.proofs.GivenDens.{is_given-slice_get}
use Rattle.ct_problem.proofs.reading.den_lines.is_given.Goals as goal

pub returns-in-Some-Some : goal.returns-in-Some-Some
returns-in-Some-Some c =
    let e = is_given-slice_get c.args.at c.args.found.now in
    first_of (search rules, grind (arith, common_steps))

pub returns-in_default : goal.returns-in_default
returns-in_default c =
    let e = is_given-slice_get c.args.at c.args.found.now in
    first_of (search rules, grind (arith, common_steps))

pub returns-in_default-2 : goal.returns-in_default-2
returns-in_default-2 c =
    let e = is_given-slice_get c.args.at c.args.found.now in
    first_of (search rules, grind (arith, common_steps))
