use Rattle.ct_border.proofs.Base.{◌≡◌, ℕ, ◌<◌, actions_of}
use Rattle.ct_module.specs.Modules.{dimension}
use Rattle.ct_module.specs.Values.{rows_by_value}
use Rattle.ct_border.specs.Build.{on_elements, commute_tests}
use Rattle.ct_border.specs.Modules.{CommuteAt}
use Rattle.ct_border.proofs.CommutingRows.{rows_from}
use Rattle.ct_border.proofs.closed.commutes_on_rows.Given as goal

abbrev pub invariant-going : goal.invariant-going
invariant-going l =
    (commute_tests l.algebra l.space (on_elements (dimension l.space) (l.first, l.second)) ≡
    rows_from l.algebra l.space (l.first, l.second) l.element) ×
    ((b : ℕ) → b < l.element → (c : ℕ) → c < dimension l.space →
    CommuteAt (actions_of l.algebra) (dimension l.space) (rows_by_value l.space) l.first l.second b c)
