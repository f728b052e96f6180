use Rattle.ct_run.proofs.Base.{◌≡◌, length, map, actions_of, Each, IsQuotient, behind}
use Rattle.ct_run.specs.Fractions.{pair_of}
use Rattle.ct_run.specs.Checking.{checked_quotient, checked_quotients}
use Rattle.ct_run.proofs.values.quotients.Given as goal

-- what is done and what is left
abbrev pub invariant-valuing : goal.invariant-valuing
invariant-valuing l =
    (checked_quotients (actions_of l.algebra) l.fn.quotients ≡
    behind (λ _ q. checked_quotient (actions_of l.algebra) q) (map pair_of l.done.items) l.rest) ×
    Each (IsQuotient l.algebra) l.rest

abbrev pub decreases-valuing : goal.decreases-valuing
decreases-valuing l = length l.rest
