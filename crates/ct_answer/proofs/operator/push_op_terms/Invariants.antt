use Rattle.ct_answer.proofs.Base.{◌≡◌, ◌++◌, drop, false}
use Rattle.std.proofs.Common.{flat_map}
use Rattle.ct_ore.specs.Terms.{op_entries}
use Rattle.ct_answer.specs.Text.{operator_entry_text}
use Rattle.ct_answer.proofs.operator.push_op_terms.Given as goal

abbrev pub invariant-loop-term : goal.invariant-loop-term
invariant-loop-term l =
    l.out.items ++ flat_map (operator_entry_text l.algebra false) (op_entries (drop l.term-index l.others)) ≡
    l.initial.out.items ++ flat_map (operator_entry_text l.algebra false) (op_entries l.others)
