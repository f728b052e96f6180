use Rattle.ct_token.proofs.Cuts as cuts
use Rattle.ct_token.proofs.laws.scans_cut_the_text.Goals as goal

pub returns : goal.returns
returns c = cuts.scans_cut_the_text
