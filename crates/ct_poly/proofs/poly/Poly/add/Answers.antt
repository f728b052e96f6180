use Rattle.ct_poly.proofs.Base.{sym, verdict_fits, verdict_refuses}
use Rattle.ct_poly.specs.Measures.{checked_plus}
use Rattle.ct_poly.proofs.poly.Poly.add.Goals as goal

pub returns-in-Some : goal.returns-in-Some
unfolding checked_plus
returns-in-Some c = verdict_refuses _ _ _ (sym c.in-Some.ensures)

pub returns : goal.returns
unfolding checked_plus
returns c = verdict_fits _ _ _ (sym c.in_default.ensures) (sym c.in_ok-plus.ensures.value)
