use Rattle.ct_algebra.proofs.OperatorLawProofs.{field_operators_follow_rule}
use Rattle.ct_algebra.proofs.laws.field_operators_follow_rule.Goals as goal

pub returns : goal.returns
returns c = field_operators_follow_rule
