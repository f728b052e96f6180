use Rattle.ct_int.proofs.ValueLaws.{lowest_terms-exist}
use Rattle.ct_int.proofs.laws.lowest_terms_exist.Goals as goal

pub returns : goal.returns
returns c = lowest_terms-exist
