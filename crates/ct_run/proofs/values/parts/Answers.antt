use Rattle.ct_run.proofs.Base.{rules}
use Rattle.ct_run.proofs.Parts.{pairing_more}
use Rattle.ct_run.proofs.values.parts.Goals as goal

pub pairing-preserved : goal.pairing-preserved
pairing-preserved c =
    pairing_more c.in-Some.name.now c.in-Some-next.quotient c.in-Some-next-2.factor c.in-Some.ensures.cases.0 (search rules) (search rules)
    (search rules) c.pairing.invariant
