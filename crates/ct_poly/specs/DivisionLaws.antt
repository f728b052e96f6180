-- What the laws of exact division say; the functions of src/laws.rt prove them.
--     EachDivisionStepFalls    the leading monomial of the rest falls in each step, so a division ends by itself
--     DivisionGoesByTurns      a division is its next step and then all behind it; or nothing, where there is no next term
-- So `checked_quotient` goes on to the last step, or to the first that breaks a rule, and no count of turns ends it before.
use Rattle.std.specs.Prelude.{◌≡◌, ℤ, Ok, Some}
use Rattle.std.specs.declared.cmp.Ordering.TheVariants.{Less}
use Rattle.ct_algebra.specs.Leading.{leading}
use Rattle.ct_algebra.specs.Monomial.{Mono, mono_cmp}
use Rattle.ct_algebra.specs.Polynomial.{Polynomial}
use Rattle.ct_poly.specs.Division.{Dividing, next_term, checked_step, division_from, division_turn}

abbrev pub EachDivisionStepFalls : Type 0
EachDivisionStepFalls =
    (f : Polynomial) (s t : Dividing) (u before after : Mono × ℤ) → next_term f s ≡ Some u → checked_step f u s ≡ Ok t →
    leading s.rest.terms ≡ Some before → leading t.rest.terms ≡ Some after → mono_cmp after.0 before.0 ≡ Less

abbrev pub DivisionGoesByTurns : Type 0
DivisionGoesByTurns = (f : Polynomial) (s : Dividing) → division_from f s ≡ division_turn f s
