use Rattle.ct_module.proofs.Base.{◌≡◌, ◌∙◌, ap, subst, length, ℕ, Ok, field, actions_of, empty_of_length}
use Rattle.std.specs.Prelude.{replicate}
use Rattle.ct_algebra.specs.FieldLaws.{embedded}
use Rattle.ct_frac.specs.Written.{whole_polynomial}
use Rattle.ct_ore.specs.Terms.{op_entries}
use Rattle.ct_telescoping.specs.Vector.{plus_vector}
use Rattle.ct_telescoping.specs.VectorModule.{scale_vector}
use Rattle.ct_module.specs.Columns.{symbols_of, checked_free_column}
use Rattle.ct_module.specs.Combination.{checked_term}
use Rattle.ct_module.specs.Modules.{dimension, written_zero}
use Rattle.ct_module.specs.Values.{vector_of, rows_by_value, made_by}
use Rattle.ct_module.proofs.Images.{summing_start, summing_more, summing_end}
use Rattle.ct_module.proofs.module.Module.image.Goals as goal

pub adding-init : goal.adding-init
adding-init c =
    summing_start c.args.algebra.now c.args.self.now c.args.start.now c.args.op.now.terms (op_entries c.terms-rest.result.now) c.in_ok-sum.sum.items
    c.terms-rest.ensures (c.in_ok-sum.ensures ∙ ap (λ basis. replicate (length basis) written_zero) c.basis.ensures) c.requires.operators

pub adding-preserved : goal.adding-preserved
adding-preserved c =
    let d : ℕ = dimension c.args.self.now in
    let slice : c.as_slice.result.now ≡ c.adding.sum.items = c.as_slice.ensures.value in
    summing_more c.args.algebra.now c.args.self.now c.args.start.now c.args.op.now.terms (op_entries c.adding.rest.now) (op_entries c.in-Some.more.now)
    c.adding.sum.items c.in_ok-sum-2.sum.items c.in-Some.t.now.mono c.in-Some.t.now.coef c.adding.invariant (ap op_entries c.in-Some.ensures.cases.0)
    (subst (λ s. checked_term (checked_free_column c.args.algebra.now c.args.self.now c.args.start.now) s
    (c.in-Some.t.now.mono, whole_polynomial c.in-Some.t.now.coef) ≡ Ok c.in_ok-sum-2.sum.items) slice c.in_ok-sum-2.ensures.steps)
    c.in_ok-sum-2.ensures.size
    (c.in_ok-sum-2.ensures.means ∙ ap (λ s. plus_vector field.group d (vector_of d s) (scale_vector field d (embedded c.in-Some.t.now.coef)
    (made_by (actions_of c.args.algebra.now) d (rows_by_value c.args.self.now) (symbols_of c.in-Some.t.now.mono) (vector_of d c.args.start.now)))) slice)

pub returns-clause-means : goal.returns-clause-means
returns-clause-means c =
    summing_end c.args.algebra.now c.args.self.now c.args.start.now c.args.op.now (op_entries c.adding.rest.now) c.adding.sum.items c.adding.invariant
    (ap op_entries (empty_of_length c.adding.rest.now c.in_default.ensures.cases))
