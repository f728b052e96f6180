use Rattle.ct_token.proofs.TokenPlaces as places
use Rattle.ct_token.proofs.laws.scans_are_tokens.Goals as goal

pub returns : goal.returns
returns c = places.scans_are_tokens
