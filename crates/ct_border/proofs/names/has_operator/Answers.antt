use Rattle.ct_border.proofs.Base.{◌∙◌, ap, arith, sym, known_action, no_action, naming_of}
use Rattle.ct_border.specs.Staircase.{acts}
use Rattle.ct_border.proofs.names.has_operator.Goals as goal

pub returns-then-i-count : goal.returns-then-i-count
returns-then-i-count c =
    c.acts.ensures ∙ ap acts (sym (known_action c.args.algebra.now (naming_of c.info.result.now) c.args.i c.requires c.info.ensures))

pub returns-else-i-count : goal.returns-else-i-count
returns-else-i-count c = sym (ap acts (no_action c.args.algebra.now c.args.i c.requires (omega (arith, c.count.ensures, c.if-i-count.false))))
