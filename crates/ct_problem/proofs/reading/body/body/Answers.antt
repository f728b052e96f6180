use Rattle.ct_problem.proofs.Base.{rules, arith, common_steps, reading_of_draft, body}
use Rattle.ct_problem.proofs.Definitions.{definitions-named}
use Rattle.ct_problem.proofs.reading.body.body.Goals as goal

pub returns-in_err-gens-clause-reads : goal.returns-in_err-gens-clause-reads
unfolding body reading_of_draft
returns-in_err-gens-clause-reads c =
    let named = definitions-named c.args.names c.args.lets c.requires in
    first_of (search rules, grind (arith, common_steps))

pub returns-in_err-dens-clause-reads : goal.returns-in_err-dens-clause-reads
unfolding body reading_of_draft
returns-in_err-dens-clause-reads c =
    let named = definitions-named c.args.names c.args.lets c.requires in
    first_of (search rules, grind (arith, common_steps))

pub returns-in_err-targets-clause-reads : goal.returns-in_err-targets-clause-reads
unfolding body reading_of_draft
returns-in_err-targets-clause-reads c =
    let named = definitions-named c.args.names c.args.lets c.requires in
    first_of (search rules, grind (arith, common_steps))

pub returns-in_err-orders-clause-reads : goal.returns-in_err-orders-clause-reads
unfolding body reading_of_draft
returns-in_err-orders-clause-reads c =
    let named = definitions-named c.args.names c.args.lets c.requires in
    first_of (search rules, grind (arith, common_steps))

pub returns-in_err-degrees-clause-reads : goal.returns-in_err-degrees-clause-reads
unfolding body reading_of_draft
returns-in_err-degrees-clause-reads c =
    let named = definitions-named c.args.names c.args.lets c.requires in
    first_of (search rules, grind (arith, common_steps))

pub returns-clause-reads : goal.returns-clause-reads
unfolding body reading_of_draft
returns-clause-reads c =
    let named = definitions-named c.args.names c.args.lets c.requires in
    first_of (search rules, grind (arith, common_steps))
