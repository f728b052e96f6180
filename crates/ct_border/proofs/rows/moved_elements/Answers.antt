use Rattle.ct_border.proofs.Base.{◌≡◌, ◌∙◌, ◌·◌, ◌<◌, [], actions_of, ap, ap₂, arith, each_behind, get_or_default}
use Rattle.ct_border.proofs.Base.{length, rules, name_with, operators-symbol, subst, sym, symbol, total, total-symbol, unit, HasOperators}
use Rattle.ct_module.specs.Views.{rows_in}
use Rattle.ct_border.specs.Build.{checked_form}
use Rattle.ct_border.specs.BuildMeans.{element_at}
use Rattle.ct_border.proofs.StaircaseOfList.{staircase_of, small_totals}
use Rattle.ct_border.proofs.rows.moved_elements.Goals as goal

pub going-init : goal.going-init
going-init c =
    let a = actions_of c.args.ideal.now.algebra.now in
    let gs = c.args.ideal.now.generators.now in
    let ms = c.args.ideal.now.basis.now in
    let i = name_with c.args.i in
    let none : rows_in c.in_ok-rows.rows.items ≡ [] = ap rows_in c.in_ok-rows.ensures.items in
    record {
      steps = each_behind (λ _ e. checked_form a gs ms (symbol i · e)) (rows_in c.in_ok-rows.rows.items) ms none;
      made = search rules;
      known = c.requires.known;
    }

pub product-moved-requires : goal.product-moved-requires
product-moved-requires c =
    let ms = c.args.ideal.now.basis.now in
    let below : c.going.b < length ms = c.going-test.true in
    omega (
      arith,
      ap total c.name-symbol.ensures,
      total-symbol (name_with c.args.i),
      ap total (get_or_default ms c.going.b c.index-ideal-b.result unit below),
      small_totals (actions_of c.args.ideal.now.algebra.now) c.args.ideal.now.generators.now ms c.requires.staircase c.going.b below,
      c.requires.staircase.few,
      below,
    )

pub normal_form-requires-clause-operators : goal.normal_form-requires-clause-operators
normal_form-requires-clause-operators c =
    let a = actions_of c.args.ideal.now.algebra.now in
    let ms = c.args.ideal.now.basis.now in
    let below : c.going.b < length ms = c.going-test.true in
    let moved : c.product-moved.result ≡ symbol (name_with c.args.i) · element_at ms c.going.b =
    c.product-moved.ensures ∙ ap₂ ◌·◌ c.name-symbol.ensures (get_or_default ms c.going.b c.index-ideal-b.result unit below) in
    subst (HasOperators a) (sym moved)
    (operators-symbol a (name_with c.args.i) (element_at ms c.going.b) c.requires.acts
    ((staircase_of a c.args.ideal.now.generators.now ms c.requires.staircase).have_operators c.going.b below))
