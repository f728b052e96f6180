use Rattle.ct_answer.proofs.Base.{◌≡◌, ◌++◌, drop}
use Rattle.ct_answer.specs.Generators.{later_fractions}
use Rattle.ct_answer.proofs.generators.push_fractions.Given as goal

abbrev pub invariant-loop-value : goal.invariant-loop-value
invariant-loop-value l =
    l.out.items ++ later_fractions l.algebra (drop l.value-index l.others) ≡ l.initial.out.items ++ later_fractions l.algebra l.others
