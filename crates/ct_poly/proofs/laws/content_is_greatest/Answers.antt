use Rattle.ct_poly.proofs.Contents.{content_is}
use Rattle.ct_poly.proofs.laws.content_is_greatest.Goals as goal

pub returns : goal.returns
returns c = content_is
