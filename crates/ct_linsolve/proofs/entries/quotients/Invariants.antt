use Rattle.ct_linsolve.proofs.Base.{◌≡◌, length, behind}
use Rattle.ct_linsolve.specs.Rows.{quotient_or_none, quotients}
use Rattle.ct_linsolve.proofs.entries.quotients.Given as goal

abbrev pub invariant-dividing : goal.invariant-dividing
invariant-dividing l = quotients l.by l.row ≡ behind (λ _ x. quotient_or_none l.by x) l.done.items l.rest

abbrev pub decreases-dividing : goal.decreases-dividing
decreases-dividing l = length l.rest
