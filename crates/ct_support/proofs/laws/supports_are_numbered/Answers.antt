use Rattle.ct_support.proofs.SupportsListed.{numbered}
use Rattle.ct_support.proofs.laws.supports_are_numbered.Goals as goal

pub returns : goal.returns
returns c = numbered
