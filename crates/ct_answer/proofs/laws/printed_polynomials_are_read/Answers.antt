use Rattle.ct_answer.proofs.ReadsBack as reads
use Rattle.ct_answer.proofs.laws.printed_polynomials_are_read.Goals as goal

pub returns : goal.returns
returns c = reads.polynomials_are_read
