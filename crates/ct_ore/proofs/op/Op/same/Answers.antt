use Rattle.ct_ore.proofs.Base.{sym, ◌∙◌, ap, monomials, polys, same_terms}
use Rattle.ct_ore.proofs.op.Op.same.Goals as goal

pub returns : goal.returns
returns c = (
  λ yes. same_terms monomials polys.group _ _ (sym c.terms.ensures ∙ c.same_terms.ensures.0 yes ∙ c.terms-2.ensures),
  λ equal. c.same_terms.ensures.1 (c.terms.ensures ∙ ap (λ p. p.terms) equal ∙ sym c.terms-2.ensures),
)
