use Rattle.ct_ore.proofs.Base.{sym, ◌∙◌}
use Rattle.ct_mono.specs.Equal.{mono_eq_decides}
use Rattle.ct_ore.proofs.terms.same_term.Goals as goal

pub returns-then-eq : goal.returns-then-eq
returns-then-eq c = (
  λ same. ((mono_eq_decides c.args.p.now.mono c.args.q.now.mono).0 (sym c.eq.ensures ∙ c.if-eq.true), c.same.ensures.0 same),
  λ both. c.same.ensures.1 both.1,
)
