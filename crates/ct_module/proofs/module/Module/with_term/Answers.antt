use Rattle.ct_module.proofs.Base.{◌≡◌, ◌∙◌, ap, ap₂, length, ℕ, field, IfOk-weaker}
use Rattle.ct_algebra.specs.FieldLaws.{embedded}
use Rattle.ct_frac.specs.Written.{value}
use Rattle.ct_telescoping.specs.Vector.{plus_vector}
use Rattle.ct_telescoping.specs.VectorModule.{scale_vector}
use Rattle.ct_module.specs.Modules.{dimension}
use Rattle.ct_module.specs.Values.{vector_of}
use Rattle.ct_module.proofs.Additions.{added-is}
use Rattle.ct_module.proofs.module.Module.with_term.Goals as goal

pub returns-clause-means : goal.returns-clause-means
returns-clause-means c =
    let d : ℕ = dimension c.args.self.now in
    let q_is : value c.in_ok-q.q ≡ embedded c.args.t.now.coef = c.in_ok-q.ensures.value ∙ ap embedded c.in_ok-copy.ensures.value in
    let v_is : c.as_slice.result.now ≡ c.in_ok-v.v.items = c.as_slice.ensures.value in
    IfOk-weaker c.added.result _ _
    (λ w entries. added-is d c.in_ok-q.q c.args.sum.now c.as_slice.result.now w.items (ap length v_is ∙ c.in_ok-v.ensures.size) entries
    ∙ ap₂ (λ s u. plus_vector field.group d (vector_of d c.args.sum.now) (scale_vector field d s u)) q_is (ap (vector_of d) v_is ∙ c.in_ok-v.ensures.means))
    c.added.ensures.value
