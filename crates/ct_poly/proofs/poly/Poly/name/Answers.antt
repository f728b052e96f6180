use Rattle.ct_poly.proofs.Base.{sym, ◌∙◌, ap, pos, IfOk-weaker, name_with, term, name_is}
use Rattle.ct_poly.proofs.poly.Poly.name.Goals as goal

pub returns : goal.returns
returns c = record {
  value = IfOk-weaker c.of_term.result _ _ (λ p value. value ∙ ap (λ m. term m (pos 1)) c.name.ensures
      ∙ sym (name_is (name_with c.args.i))) c.of_term.ensures;
}
