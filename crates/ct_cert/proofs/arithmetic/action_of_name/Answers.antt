use Rattle.ct_cert.proofs.ByAction.{action_known}
use Rattle.ct_cert.proofs.arithmetic.action_of_name.Goals as goal

pub returns : goal.returns
returns c = action_known c.args.algebra.now c.args.name _ c.requires.known c.requires.few c.info.ensures
