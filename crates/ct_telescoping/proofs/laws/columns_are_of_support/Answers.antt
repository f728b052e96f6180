use Rattle.ct_telescoping.proofs.SupportLawProofs.{of_support}
use Rattle.ct_telescoping.proofs.laws.columns_are_of_support.Goals as goal

pub returns : goal.returns
returns c = of_support
