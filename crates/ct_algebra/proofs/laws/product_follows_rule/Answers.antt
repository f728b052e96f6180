use Rattle.ct_algebra.proofs.OperatorLawProofs.{follows_rule}
use Rattle.ct_algebra.proofs.laws.product_follows_rule.Goals as goal

pub returns : goal.returns
returns c = follows_rule
