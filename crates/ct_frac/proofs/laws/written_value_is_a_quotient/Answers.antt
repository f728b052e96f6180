use Rattle.ct_frac.proofs.Fractions.{value_is_a_quotient}
use Rattle.ct_frac.proofs.laws.written_value_is_a_quotient.Goals as goal

pub returns : goal.returns
returns c = value_is_a_quotient
