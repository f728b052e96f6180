use Rattle.ct_run.proofs.Base.{◌≡◌, length, actions_of, Each, IsPolynomial, checked_polynomial, behind}
use Rattle.ct_run.specs.Checking.{checked_polynomials}
use Rattle.ct_run.proofs.values.polynomials.Given as goal

-- what is done and what is left
abbrev pub invariant-valuing : goal.invariant-valuing
invariant-valuing l =
    (checked_polynomials (actions_of l.algebra) l.exprs ≡
    behind (λ _ x. checked_polynomial (actions_of l.algebra) x) l.done.items l.rest) ×
    Each (IsPolynomial l.algebra) l.rest

abbrev pub decreases-valuing : goal.decreases-valuing
decreases-valuing l = length l.rest
