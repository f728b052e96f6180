use Rattle.std.specs.Prelude.{IfOk}
use Rattle.ct_setup.proofs.Base.{◌≤◌, All, IsOver, List, Operator, actions_of, arith, length}
use Rattle.ct_border.specs.BuildViews.{OperatorFits}
use Rattle.ct_setup.proofs.ValuesKnown.{generators_known}
use Rattle.ct_setup.proofs.expressions.generators.Goals as goal

-- what follows from what is known of the values
known :
    {P : List Operator → Type 0} (c : goal.After-values) →
    ((vs : List Operator) → length vs ≤ 16 → All (IsOver (actions_of c.args.problem.now.algebra)) vs →
    All (OperatorFits (length c.args.problem.now.algebra)) vs → P vs) →
    IfOk c.values.result (λ v. P v.items)
known c follows =
    let p = c.args.problem.now in
    generators_known p.algebra (length p.lets) p.gens c.listed.result.now c.values.result p.formed.names.few p.formed.generators c.listed.ensures
    follows c.values.ensures

pub returns-clause-count : goal.returns-clause-count
returns-clause-count c = known c (λ vs few operators names. omega (arith, few))

pub returns-clause-operators : goal.returns-clause-operators
returns-clause-operators c = known c (λ vs few operators names. operators)

pub returns-clause-names : goal.returns-clause-names
returns-clause-names c = known c (λ vs few operators names. names)
