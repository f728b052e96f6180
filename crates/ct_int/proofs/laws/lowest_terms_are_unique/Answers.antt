use Rattle.ct_int.proofs.LowestTerms.{lowest_terms-same}
use Rattle.ct_int.proofs.laws.lowest_terms_are_unique.Goals as goal

pub returns : goal.returns
returns c = lowest_terms-same
