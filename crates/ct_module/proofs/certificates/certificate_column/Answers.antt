use Rattle.ct_module.proofs.Base.{IfOk-weaker, ◌≡◌, ◌∙◌, Ok, ap, ap₂, sym, subst, length, pos, arith, AnswersBy}
use Rattle.ct_algebra.specs.Names.{name_with}
use Rattle.ct_algebra.specs.Substitution.{term}
use Rattle.ct_algebra.specs.Actions.{by_action}
use Rattle.ct_algebra.specs.Field.{field}
use Rattle.ct_frac.specs.Normal.{normal}
use Rattle.ct_frac.specs.Written.{value, value_over}
use Rattle.ct_telescoping.specs.Tested.{acted}
use Rattle.ct_telescoping.specs.Vector.{unit_vector}
use Rattle.ct_telescoping.specs.VectorModule.{scale_vector}
use Rattle.ct_module.specs.Values.{vector_of, rows_by_value, differences_of, negatives_of, negative_difference, summand_vector}
use Rattle.ct_module.specs.Values.{denominator_at, product_or_one}
use Rattle.ct_module.proofs.CertificateVectors.{only_at-vector, certificate_vector}
use Rattle.ct_ore.proofs.PairMeasureLaws.{known_action}
use Rattle.ct_ore.specs.Naming.{action_of, actions_of, naming_of}
use Rattle.ct_module.specs.Action.{checked_act}
use Rattle.ct_module.specs.Columns.{only_at, checked_negative_difference}
use Rattle.ct_module.specs.Modules.{dimension}
use Rattle.std.specs.Prelude.{Some, slice_get}
use Rattle.ct_module.proofs.CertificateColumns.{only_at-length, certificate_is}
use Rattle.ct_module.proofs.certificates.certificate_column.Goals as goal

pub act-requires-clause-vector : goal.act-requires-clause-vector
act-requires-clause-vector c =
    ap length (c.as_slice.ensures.value ∙ c.in_ok-v.ensures)
    ∙ only_at-length (length c.basis.result.now) c.args.element c.in_ok-fraction.fraction ∙ ap length c.basis.ensures

pub returns-clause-steps : goal.returns-clause-steps
returns-clause-steps c =
    let s = c.args.setting.now in
    let j = name_with c.args.name in
    let few = c.fits.ensures.algebra.few in
    let declared = c.requires.summed.declared in
    let sizes : dimension s.space ≡ length c.basis.result.now = ap dimension (sym c.module-module.ensures) ∙ ap length (sym c.basis.ensures) in
    let v_is : c.as_slice.result.now ≡ only_at (dimension s.space) c.args.element (normal (term c.args.mono.now (pos 1)) c.in_ok-den.den) =
    c.as_slice.ensures.value ∙ c.in_ok-v.ensures
    ∙ ap₂ (λ d f. only_at d c.args.element f) (sym sizes)
    (c.in_ok-fraction.ensures.written ∙ ap (λ p. normal p c.in_ok-den.den) c.in_ok-power.ensures.value) in
    let acted : checked_act s.names s.space j c.as_slice.result.now ≡ Ok c.in_ok-acted.acted.items =
    ap₂ (λ ns m. checked_act ns m j c.as_slice.result.now) (sym c.algebra-algebra.ensures) (sym c.module-module.ensures) ∙ c.in_ok-acted.ensures.steps in
    let action : action_of c.info.result.now.action ≡ actions_of s.names j =
    sym (known_action s.names (naming_of c.info.result.now) c.args.name (omega (arith, few, declared))
    (ap (λ ns. slice_get ns c.args.name) (sym c.algebra-algebra.ensures) ∙ c.info.ensures)) in
    subst (λ x. AnswersBy (λ v. v.items) x c.negative_difference.result)
    (ap (λ t. checked_negative_difference t c.as_slice-2.result.now c.as_slice-3.result.now) action
    ∙ ap₂ (checked_negative_difference (actions_of s.names j)) (c.as_slice-2.ensures.value ∙ sym c.as_slice.ensures.value) c.as_slice-3.ensures.value
    ∙ sym (certificate_is s c.args.order j c.args.element c.args.mono.now c.in_ok-den.den c.as_slice.result.now c.in_ok-acted.acted.items v_is
    c.in_ok-den.ensures.steps acted))
    c.negative_difference.ensures.steps

pub returns-clause-means : goal.returns-clause-means
returns-clause-means c =
    let s = c.args.setting.now in
    let j = name_with c.args.name in
    let d = dimension s.space in
    let f = c.in_ok-fraction.fraction in
    let v = c.as_slice.result.now in
    let few = c.fits.ensures.algebra.few in
    let declared = c.requires.summed.declared in
    let sizes : length c.basis.result.now ≡ d = ap length c.basis.ensures ∙ ap dimension c.module-module.ensures in
    let v_is : v ≡ only_at d c.args.element f =
    c.as_slice.ensures.value ∙ c.in_ok-v.ensures ∙ ap (λ n. only_at n c.args.element f) sizes in
    let action : action_of c.info.result.now.action ≡ actions_of s.names j =
    sym (known_action s.names (naming_of c.info.result.now) c.args.name (omega (arith, few, declared))
    (ap (λ ns. slice_get ns c.args.name) (sym c.algebra-algebra.ensures) ∙ c.info.ensures)) in
    let act : vector_of d c.in_ok-acted.acted.items ≡ acted (actions_of s.names) d (rows_by_value s.space) j (vector_of d v) =
    subst (λ ns. vector_of d c.in_ok-acted.acted.items ≡ acted (actions_of ns) d (rows_by_value s.space) j (vector_of d v)) c.algebra-algebra.ensures
    (subst (λ m. vector_of (dimension m) c.in_ok-acted.acted.items ≡
    acted (actions_of c.algebra-algebra.result.now) (dimension m) (rows_by_value m) j (vector_of (dimension m) v)) c.module-module.ensures
    c.in_ok-acted.ensures.means) in
    let fraction : value f ≡ value_over (term c.args.mono.now (pos 1)) (denominator_at s c.args.order j) =
    c.in_ok-fraction.ensures.value
    ∙ ap₂ value_over c.in_ok-power.ensures.value (sym (ap product_or_one c.in_ok-den.ensures.steps)) in
    let start : vector_of d v ≡ summand_vector d c.args.element c.args.mono.now (denominator_at s c.args.order j) =
    ap (vector_of d) v_is ∙ only_at-vector d c.args.element f ∙ ap (λ x. scale_vector field d x (unit_vector field d c.args.element)) fraction in
    IfOk-weaker c.negative_difference.result _ _
    (λ u same. certificate_vector (actions_of s.names) d (rows_by_value s.space) j v c.in_ok-acted.acted.items u.items
    (ap length v_is ∙ only_at-length d c.args.element f) (c.in_ok-acted.ensures.size ∙ ap dimension c.module-module.ensures)
    (same
    ∙ ap (λ t. by_action t (differences_of c.as_slice-2.result.now c.as_slice-3.result.now) (negatives_of c.as_slice-3.result.now)
    (negatives_of c.as_slice-3.result.now)) action
    ∙ ap₂ (λ x y. by_action (actions_of s.names j) (differences_of x y) (negatives_of y) (negatives_of y))
    (c.as_slice-2.ensures.value ∙ sym c.as_slice.ensures.value) c.as_slice-3.ensures.value) act
    ∙ ap (negative_difference (actions_of s.names) d (rows_by_value s.space) j) start)
    c.negative_difference.ensures.values
