use Rattle.ct_setup.proofs.Base.{◌≡◌, length, actions_of, Each, IsOperator, value_of, behind}
use Rattle.ct_setup.specs.Setup.{checked_values}
use Rattle.ct_setup.proofs.expressions.values.Given as goal

-- what is done and what is left
abbrev pub invariant-valuing : goal.invariant-valuing
invariant-valuing l =
    (checked_values (actions_of l.algebra) l.exprs ≡
    behind (λ _ x. value_of (actions_of l.algebra) x) l.done.items l.rest) ×
    Each (IsOperator l.algebra) l.rest

abbrev pub decreases-valuing : goal.decreases-valuing
decreases-valuing l = length l.rest
