use Rattle.ct_border.proofs.Base.{◌∙◌, ap, length, refl}
use Rattle.std.proofs.lemmas.Result.{IfOk-weaker}
use Rattle.ct_algebra.specs.Field.{field}
use Rattle.ct_frac.specs.Written.{value_over}
use Rattle.ct_module.proofs.Additions.{added-is}
use Rattle.ct_module.specs.Values.{vector_of}
use Rattle.ct_telescoping.specs.Vector.{plus_vector}
use Rattle.ct_telescoping.specs.VectorModule.{scale_vector}
use Rattle.ct_border.proofs.forms.with_share.Goals as goal

pub returns-clause-means : goal.returns-clause-means
returns-clause-means c =
    let v = c.args.form.now in
    IfOk-weaker c.added.result _ _ (λ w entries.
    added-is (length v) c.in_ok-quotient.quotient c.args.sum.now v w.items refl entries
    ∙ ap (λ x. plus_vector field.group (length v) (vector_of (length v) c.args.sum.now) (scale_vector field (length v) x (vector_of (length v) v)))
    (c.in_ok-quotient.ensures.value ∙ ap (λ n. value_over n c.args.first.now.coef) c.in_ok-negative.ensures.value)) c.added.ensures.value
