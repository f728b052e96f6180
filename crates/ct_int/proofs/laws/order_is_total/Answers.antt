use Rattle.ct_int.proofs.ValueLaws.{order_of_ratios-turned, order_of_ratios-passed_on}
use Rattle.ct_int.proofs.laws.order_is_total.Goals as goal

pub returns : goal.returns
returns c = λ p q r first second third. record { turned = order_of_ratios-turned p q; passed_on = order_of_ratios-passed_on p q r first second third }
