use Rattle.ct_problem.proofs.Base.{arith}
use Rattle.ct_problem.proofs.DifferentTexts.{all_texts}
use Rattle.ct_problem.proofs.reading.names.Names.of.Goals as goal

pub invariant_of-result : goal.invariant_of-result
invariant_of-result c =
    let few = c.requires.few in
    record {
      few = record { variables = few; lets = rw (c.new.ensures.items) (omega arith) };
      same_texts = rw (c.new.ensures.items, c.in_ok-texts.ensures, c.as_slice.ensures.value) (all_texts c.args.variables.items);
    }
