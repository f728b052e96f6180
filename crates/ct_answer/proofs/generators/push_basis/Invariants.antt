use Rattle.ct_answer.proofs.Base.{◌≡◌, ◌++◌, drop}
use Rattle.ct_answer.specs.Generators.{basis_lines}
use Rattle.ct_answer.proofs.generators.push_basis.Given as goal

abbrev pub invariant-loop-element : goal.invariant-loop-element
invariant-loop-element l =
    l.text.items ++ basis_lines l.algebra (drop l.element-index l.elements) ≡ l.fn.text.items ++ basis_lines l.algebra l.elements
