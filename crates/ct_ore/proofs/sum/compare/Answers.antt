use Rattle.ct_ore.proofs.Base.{sym, ◌∙◌, ap, ordering_then, mono_cmp}
use Rattle.ct_algebra.proofs.MonomialLists.{then-not-Equal}
use Rattle.ct_ore.specs.CoefficientTerms.{key, pair_cmp_is}
use Rattle.ct_ore.proofs.sum.compare.Goals as goal

pub returns-in-Equal : goal.returns-in-Equal
returns-in-Equal c =
    c.cmp-in-Equal.ensures
    ∙ ap (λ r. ordering_then r (mono_cmp c.args.a.now.names c.args.b.now.names)) c.in-Equal.ensures
    ∙ sym (pair_cmp_is (key c.args.a.now) (key c.args.b.now))

pub returns-in_default : goal.returns-in_default
returns-in_default c =
    then-not-Equal _ (mono_cmp c.args.a.now.names c.args.b.now.names) c.in_default.not-Equal
    ∙ ap (λ r. ordering_then r (mono_cmp c.args.a.now.names c.args.b.now.names)) c.cmp.ensures
    ∙ sym (pair_cmp_is (key c.args.a.now) (key c.args.b.now))
