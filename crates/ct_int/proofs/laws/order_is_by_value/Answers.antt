use Rattle.ct_int.proofs.ValueLaws.{Equal-by_value, order_of_ratios-same}
use Rattle.ct_int.proofs.laws.order_is_by_value.Goals as goal

pub returns : goal.returns
returns c = λ p q r first second third. (Equal-by_value p q, order_of_ratios-same p q r first second third)
