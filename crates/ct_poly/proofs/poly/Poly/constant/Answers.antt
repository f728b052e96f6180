use Rattle.ct_poly.proofs.Base.{sym, ◌∙◌, ap₂, w128, to_z-of_z, IfOk-weaker, term, number_is}
use Rattle.ct_poly.proofs.poly.Poly.constant.Goals as goal

pub returns : goal.returns
returns c = record {
  value = IfOk-weaker c.of_term.result _ _ (λ p value. value ∙ ap₂ term c.one.ensures (to_z-of_z w128 c.args.c c.ranges.c)
      ∙ sym (number_is c.args.c)) c.of_term.ensures;
}
