use Rattle.ct_poly.proofs.Base.{verdict_ok}
use Rattle.ct_poly.specs.Measures.{checked_plus, checked_minus, checked_times, checked_shifted, checked_derived}
use Rattle.ct_poly.proofs.laws.checked_values_are_exact.Goals as goal

pub returns : goal.returns
unfolding checked_plus checked_minus checked_times checked_shifted checked_derived
returns c = λ p q r i a. (verdict_ok _ _ r, verdict_ok _ _ r, verdict_ok _ _ r, verdict_ok _ _ r, verdict_ok _ _ r)
