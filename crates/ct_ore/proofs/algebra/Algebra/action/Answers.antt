use Rattle.ct_ore.proofs.Base.{sym, arith}
use Rattle.ct_ore.specs.Naming.{naming_of}
use Rattle.ct_ore.proofs.PairMeasureLaws.{known_action, no_action}
use Rattle.ct_ore.proofs.algebra.Algebra.action.Goals as goal

pub returns-then-i-count : goal.returns-then-i-count
returns-then-i-count c =
    sym (known_action c.args.self.now (naming_of c.info.result.now) c.args.i c.requires c.info.ensures)

pub returns-else-i-count : goal.returns-else-i-count
returns-else-i-count c = sym (no_action c.args.self.now c.args.i c.requires (omega (arith, c.count.ensures)))
