use Rattle.ct_setup.proofs.Base.{◌≡◌, ◌+◌, ◌≤◌, length, actions_of, Each, IsOperator, behind}
use Rattle.ct_setup.specs.Setup.{plain_generator, plain_generators}
use Rattle.ct_setup.proofs.plain.plain_generators.Given as goal

-- what is done and what is left
abbrev pub invariant-valuing : goal.invariant-valuing
invariant-valuing l =
    (plain_generators (actions_of l.algebra) l.exprs ≡ behind (plain_generator (actions_of l.algebra)) l.done.items l.rest) ×
    Each (IsOperator l.algebra) l.rest × (length l.done.items + length l.rest ≤ 16)

abbrev pub decreases-valuing : goal.decreases-valuing
decreases-valuing l = length l.rest
