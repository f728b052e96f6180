use Rattle.ct_answer.proofs.Base.{◌≡◌, ◌++◌, drop, false}
use Rattle.std.proofs.Common.{flat_map}
use Rattle.ct_poly.specs.Terms.{entries}
use Rattle.ct_answer.specs.Text.{entry_text}
use Rattle.ct_answer.proofs.polynomial.push_terms.Given as goal

abbrev pub invariant-loop-term : goal.invariant-loop-term
invariant-loop-term l =
    l.out.items ++ flat_map (entry_text l.algebra false) (entries (drop l.term-index l.others)) ≡
    l.initial.out.items ++ flat_map (entry_text l.algebra false) (entries l.others)
