-- What the law of normal forms says; `normal_forms_go_by_steps` of src/laws.rt proves it.
--     NormalFormsGoBySteps     a normal form is one step over the normal forms of smaller monomials, however many steps those take
use Rattle.std.specs.Prelude.{◌≡◌, List}
use Rattle.ct_algebra.specs.Actions.{Action}
use Rattle.ct_algebra.specs.Monomial.{Mono}
use Rattle.ct_algebra.specs.Names.{Name}
use Rattle.ct_algebra.specs.Operators.{Operator}
use Rattle.ct_border.specs.Build.{form_step, checked_form}

abbrev pub NormalFormsGoBySteps : Type 0
NormalFormsGoBySteps =
    (a : Name → Action) (generators : List Operator) (ms : List Mono) (m : Mono) →
    checked_form a generators ms m ≡ form_step a generators ms (checked_form a generators ms) m
