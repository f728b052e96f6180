use Rattle.ct_cert.proofs.Base.{actions_of, summed_of, certificate_of}
use Rattle.ct_cert.proofs.Passing.{answer_certifies}
use Rattle.ct_cert.proofs.Refusing.{answer_refutes}
use Rattle.ct_cert.proofs.calls.check_found.Goals as goal

pub returns-clause-certified : goal.returns-clause-certified
returns-clause-certified c =
    answer_certifies (actions_of c.args.algebra.now) (summed_of c.args.algebra.now) c.args.generators.now c.args.due c.args.found
    (certificate_of c.args.answer.now) c.all_tests.result c.all_tests.ensures c.requires.parts c.requires.acts c.requires.cofactors

pub returns-clause-refuted : goal.returns-clause-refuted
returns-clause-refuted c =
    answer_refutes (actions_of c.args.algebra.now) (summed_of c.args.algebra.now) c.args.generators.now c.args.due c.args.found
    (certificate_of c.args.answer.now) c.all_tests.result c.all_tests.ensures
