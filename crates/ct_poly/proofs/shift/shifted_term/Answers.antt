use Rattle.ct_poly.proofs.Base.{◌≡◌, ◌<◌, ◌*◌, ◌∙◌, nat_abs, to_z, of_z, ap, sym, subst, [], ◌∷◌, rules, arith, FitsSigned, length, slice_index_or}
use Rattle.ct_poly.proofs.Base.{w128, to_z-of_z, IfOk-weaker, exp, times, with_exponent}
use Rattle.ct_poly.specs.declared.term.Term.{Term}
use Rattle.ct_poly.specs.Powers.{IsPower}
use Rattle.ct_poly.specs.Terms.{CanMultiply, IsListOf, poly_of_terms, size_of}
use Rattle.ct_poly.proofs.Shifts.{rest_can_multiply, shifted_of_one}
use Rattle.ct_poly.proofs.shift.shifted_term.Goals as goal

pub multiple_of_terms-requires : goal.multiple_of_terms-requires
multiple_of_terms-requires c =
    let fits : FitsSigned w128 c.args.t.now.coef = search rules in
    let same : ◌≡◌ {A = Term} (record { mono = with_exponent c.args.table.now.name 0 c.args.t.now.mono; coef = c.args.t.now.coef })
    (record { mono = c.with_exp.result; coef = to_z w128 (of_z w128 c.args.t.now.coef) }) =
    λ k. record { mono = sym c.with_exp.ensures k; coef = sym (to_z-of_z w128 c.args.t.now.coef fits) k } in
    let place : c.from.result ≡ exp c.args.t.now.mono c.args.table.now.name = c.from.ensures ∙ c.exp-e.ensures in
    let below : exp c.args.t.now.mono c.args.table.now.name < length c.args.table.now.rows.items = omega (arith, c.requires.can.reaches) in
    let power : IsPower c.args.table.now.name c.args.table.now.by (exp c.args.t.now.mono c.args.table.now.name) c.as_slice.result.now =
    subst (IsPower c.args.table.now.name c.args.table.now.by (exp c.args.t.now.mono c.args.table.now.name))
    (ap (λ k. (slice_index_or c.args.table.now.rows.items k c.index.result.now).items) (sym place) ∙ ap (λ w. w.items) (sym c.index.ensures)
    ∙ sym c.as_slice.ensures.value) (c.requires.table.rows (exp c.args.t.now.mono c.args.table.now.name) c.index.result.now below) in
    subst (λ t. CanMultiply (t ∷ []) c.as_slice.result.now) same
    (rest_can_multiply c.args.table.now.name c.requires.table.known c.args.table.now.by c.requires.table.positive c.args.t.now c.as_slice.result.now
    power c.requires.can.falling (omega (arith, c.requires.can.low)) c.requires.can.small)

pub returns : goal.returns
returns c =
    let fits : FitsSigned w128 c.args.t.now.coef = search rules in
    let same : ◌≡◌ {A = Term} (record { mono = with_exponent c.args.table.now.name 0 c.args.t.now.mono; coef = c.args.t.now.coef })
    (record { mono = c.with_exp.result; coef = to_z w128 (of_z w128 c.args.t.now.coef) }) =
    λ k. record { mono = sym c.with_exp.ensures k; coef = sym (to_z-of_z w128 c.args.t.now.coef fits) k } in
    let place : c.from.result ≡ exp c.args.t.now.mono c.args.table.now.name = c.from.ensures ∙ c.exp-e.ensures in
    let below : exp c.args.t.now.mono c.args.table.now.name < length c.args.table.now.rows.items = omega (arith, c.requires.can.reaches) in
    let power : IsPower c.args.table.now.name c.args.table.now.by (exp c.args.t.now.mono c.args.table.now.name) c.as_slice.result.now =
    subst (IsPower c.args.table.now.name c.args.table.now.by (exp c.args.t.now.mono c.args.table.now.name))
    (ap (λ k. (slice_index_or c.args.table.now.rows.items k c.index.result.now).items) (sym place) ∙ ap (λ w. w.items) (sym c.index.ensures)
    ∙ sym c.as_slice.ensures.value) (c.requires.table.rows (exp c.args.t.now.mono c.args.table.now.name) c.index.result.now below) in
    IfOk-weaker c.multiple_of_terms.result _ _
    (λ v l. shifted_of_one c.args.table.now.name c.requires.table.known c.args.table.now.by c.requires.table.positive c.args.t.now
    c.as_slice.result.now power v.items
    (subst (λ t. IsListOf (times (poly_of_terms (t ∷ [])) (poly_of_terms c.as_slice.result.now)) (length c.as_slice.result.now)
    (nat_abs t.coef * size_of c.as_slice.result.now) v.items) (sym same) l))
    c.multiple_of_terms.ensures
