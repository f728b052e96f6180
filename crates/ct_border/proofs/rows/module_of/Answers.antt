use Rattle.ct_border.proofs.Base.{◌≡◌, ◌∙◌, ◌+◌, ◌<◌, ◌++◌, ◌∷◌, ◌>>=◌, [], ℕ, List, Name, All, All-nil, actions_of, ap, ap₂, arith}
use Rattle.ct_border.proofs.Base.{behind, drop, each_behind, length, map-append, rules, subst, sym, Answers, Ok}
use Rattle.ct_checked.specs.Checked.{Checked}
use Rattle.ct_frac.specs.Written.{Written}
use Rattle.ct_module.specs.Views.{lists_in, rows_in}
use Rattle.ct_border.specs.Build.{checked_rows_of, declared, unit_at}
use Rattle.ct_border.specs.Known.{IsKnown}
use Rattle.ct_border.specs.Modules.{IsFormModule}
use Rattle.ct_border.proofs.FormModules.{AreLists, form_module, lists_more, made_of, module_from, names_end, names_open}
use Rattle.ct_border.proofs.ModuleNames.{module_fits}
use Rattle.ct_border.proofs.rows.module_of.Goals as goal

pub going-init : goal.going-init
going-init c =
    let a = actions_of c.args.ideal.now.algebra.now in
    let gs = c.args.ideal.now.generators.now in
    let ms = c.args.ideal.now.basis.now in
    let none : lists_in c.in_ok-rows.rows.items ≡ [] = ap lists_in c.in_ok-rows.ensures.items in
    record {
      steps = each_behind (λ _ i. checked_rows_of a gs ms i) (lists_in c.in_ok-rows.rows.items) (declared c.args.ideal.now.algebra.now) none;
      made = search rules;
      known = subst (All (IsKnown a gs ms)) (sym c.new-known.ensures.items) (All-nil (IsKnown a gs ms));
    }

pub returns-in_err-rows_of-clause-steps : goal.returns-in_err-rows_of-clause-steps
returns-in_err-rows_of-clause-steps c =
    let ns = c.args.ideal.now.algebra.now in
    let gs = c.args.ideal.now.generators.now in
    let ms = c.args.ideal.now.basis.now in
    let f : ℕ → Name → Checked (List (List Written)) = λ _ i. checked_rows_of (actions_of ns) gs ms i in
    let below : c.going.i < length ns = omega (arith, c.going-test.true, c.count-i-end.ensures) in
    subst (λ d. Answers d c.from_residual-in_err-rows_of.result)
    (sym (module_from ns gs ms _ (c.going.invariant.steps ∙ ap (behind f (lists_in c.going.rows.items)) (names_open ns c.going.i below))))
    (search rules)

pub going-preserved : goal.going-preserved
going-preserved c =
    let ns = c.args.ideal.now.algebra.now in
    let a = actions_of ns in
    let gs = c.args.ideal.now.generators.now in
    let ms = c.args.ideal.now.basis.now in
    let f : ℕ → Name → Checked (List (List Written)) = λ _ i. checked_rows_of a gs ms i in
    let lists = lists_in c.going.rows.items in
    let rows = rows_in c.in_ok-rows_of.field-0.items in
    let next = drop (c.going.i + 1) (declared ns) in
    let below : c.going.i < length ns = omega (arith, c.going-test.true, c.count-i-end.ensures) in
    let pushed : lists_in c.append.new.list.items ≡ lists ++ rows ∷ [] =
    ap lists_in c.in_ok-append.ensures ∙ map-append (λ r. rows_in r.items) c.going.rows.items (c.in_ok-rows_of.field-0 ∷ []) in
    record {
      steps = c.going.invariant.steps ∙ ap (behind f lists) (names_open ns c.going.i below)
          ∙ ap (λ r. r >>= (λ y. behind f (lists ++ y ∷ []) next)) c.in_ok-rows_of.ensures.steps ∙ ap (λ d. behind f d next) (sym pushed);
      made = lists_more a gs ms c.going.i lists (lists_in c.append.new.list.items) rows c.going.invariant.made pushed c.in_ok-rows_of.ensures.means;
      known = c.in_ok-rows_of.ensures.known;
    }

pub returns : goal.returns
returns c =
    let ns = c.args.ideal.now.algebra.now in
    let a = actions_of ns in
    let gs = c.args.ideal.now.generators.now in
    let ms = c.args.ideal.now.basis.now in
    let f : ℕ → Name → Checked (List (List Written)) = λ _ i. checked_rows_of a gs ms i in
    let lists = lists_in c.going.rows.items in
    let end : c.going.i ≡ length ns = omega (arith, c.going-test.false, c.going.auto.i-end, c.count-i-end.ensures) in
    let is : made_of ms lists ≡ record { basis = c.in_ok-basis.basis.items; rows = lists; start = c.in_ok-start.start.items } =
    ap₂ (λ b s. record { basis = b; rows = lists; start = s }) (sym c.in_ok-basis.ensures.items)
    (sym (c.in_ok-start.ensures ∙ ap (unit_at ms) c.one.ensures)) in
    let means = subst (IsFormModule ns gs ms) is
    (form_module ns gs ms lists c.requires.staircase (subst (λ n. AreLists a gs ms n lists) end c.going.invariant.made) c.requires.over) in
    let none : drop c.going.i (declared ns) ≡ [] = names_end ns c.going.i (omega (arith, end)) in
    let steps = module_from ns gs ms (Ok lists) (c.going.invariant.steps ∙ ap (behind f lists) none) ∙ ap Ok is in
    let fits = module_fits ns gs ms _ c.requires.names steps in
    record { steps = steps; means = means; fits = record { lengths = means.lengths; rows = fits.0; start = fits.1 } }
