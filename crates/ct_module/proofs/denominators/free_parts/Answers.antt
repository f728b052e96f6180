use Rattle.ct_module.proofs.Base.{◌≡◌, ◌++◌, ◌∙◌, Ok, ap, ap₂, sym, subst, All, ◌>>=◌, checked_fold}
use Rattle.std.proofs.lemmas.List.Elements.{All-head, All-tail}
use Rattle.ct_frac.specs.FractionLaws.{EachIsWritten}
use Rattle.ct_module.specs.Columns.{checked_free_column}
use Rattle.ct_module.specs.Denominators.{parts_of}
use Rattle.ct_ore.specs.Naming.{actions_of}
use Rattle.ct_telescoping.specs.Staircase.{HasOperators}
use Rattle.ct_module.proofs.SummedDenominators.{step, parts_behind}
use Rattle.ct_module.proofs.denominators.free_parts.Goals as goal

pub forming-init : goal.forming-init
forming-init c = (
  parts_behind c.args.setting.now.names (checked_free_column c.args.setting.now.names c.args.setting.now.space c.args.setting.now.space.start) c.args.monomials.now
      ∙ ap (λ ps. checked_fold (step c.args.setting.now.names (checked_free_column c.args.setting.now.names c.args.setting.now.space c.args.setting.now.space.start)) ps c.args.monomials.now)
      (sym c.new-parts.ensures.items),
  subst EachIsWritten (sym c.new-parts.ensures.items) tt,
  c.requires,
)

pub free_column-requires-clause-operators : goal.free_column-requires-clause-operators
free_column-requires-clause-operators c =
    subst (λ ns. HasOperators (actions_of ns) c.in-Some.m.now) (sym c.algebra-algebra.ensures)
    (All-head (HasOperators (actions_of c.args.setting.now.names)) c.in-Some.m.now c.in-Some.more.now
    (subst (All (HasOperators (actions_of c.args.setting.now.names))) c.in-Some.ensures.cases.0 c.forming.invariant.2))

pub forming-preserved : goal.forming-preserved
forming-preserved c =
    let s = c.args.setting.now in
    let f = checked_free_column s.names s.space s.space.start in
    let made : f c.in-Some.m.now ≡ Ok c.in_ok-column.column.items =
    subst (λ v. checked_free_column s.names s.space v c.in-Some.m.now ≡ Ok c.in_ok-column.column.items)
    (c.start.ensures ∙ ap (λ m. m.start) c.module-module.ensures)
    (subst (λ m. checked_free_column s.names m c.start.result.now c.in-Some.m.now ≡ Ok c.in_ok-column.column.items) c.module-module.ensures
    (subst (λ ns. checked_free_column ns c.module-module.result.now c.start.result.now c.in-Some.m.now ≡ Ok c.in_ok-column.column.items)
    c.algebra-algebra.ensures c.in_ok-column.ensures.steps)) in
    let appended : c.append_parts.new.parts.items ≡ c.forming.parts.items ++ parts_of s.names c.in_ok-column.column.items =
    c.in_ok-append_parts.ensures.parts
    ∙ ap₂ (λ ns ws. c.forming.parts.items ++ parts_of ns ws) c.algebra-algebra.ensures c.as_slice.ensures.value in (
      c.forming.invariant.0
          ∙ ap (checked_fold (step s.names f) c.forming.parts.items) c.in-Some.ensures.cases.0
          ∙ ap (λ r. (r >>= (λ column. Ok (c.forming.parts.items ++ parts_of s.names column)))
          >>= (λ ps. checked_fold (step s.names f) ps c.in-Some.more.now)) made
          ∙ ap (λ ps. checked_fold (step s.names f) ps c.in-Some.more.now) (sym appended),
      c.in_ok-append_parts.ensures.written,
      All-tail (HasOperators (actions_of s.names)) c.in-Some.m.now c.in-Some.more.now
          (subst (All (HasOperators (actions_of s.names))) c.in-Some.ensures.cases.0 c.forming.invariant.2),
    )
