use Rattle.ct_module.proofs.Base.{◌∙◌, ap, sym, list_any, arith, ◌+◌}
use Rattle.ct_algebra.specs.Names.{name_with}
use Rattle.ct_frac.specs.Symbols.{has_name}
use Rattle.ct_ore.specs.Naming.{namings_of, summed_from}
use Rattle.ct_module.proofs.DeclaredNames.{has_summed_is, summed_found, summed_gone}
use Rattle.ct_module.proofs.names.has_summed.Goals as goal

pub seeking-init : goal.seeking-init
seeking-init c = (
  has_summed_is c.args.algebra.now c.args.p.now ∙ ap (λ ns. list_any (λ j. has_name j c.args.p.now) (summed_from 0 ns)) (sym c.infos-rest.ensures.names),
  omega (arith, c.infos-rest.ensures.few),
)

pub returns-then-is_summed_in : goal.returns-then-is_summed_in
returns-then-is_summed_in c =
    summed_found (λ j. has_name j c.args.p.now) (name_with c.seeking.i) (summed_from (c.seeking.i + 1) (namings_of c.in-Some.more.now))
    c.in-Some.info.now.role (sym c.is_summed_in.ensures ∙ c.if-is_summed_in.true)
    ∙ ap (λ ns. list_any (λ j. has_name j c.args.p.now) (summed_from c.seeking.i (namings_of ns))) (sym c.in-Some.ensures.cases.0)
    ∙ sym c.seeking.invariant.0

pub seeking-preserved : goal.seeking-preserved
seeking-preserved c = (
  c.seeking.invariant.0
      ∙ ap (λ ns. list_any (λ j. has_name j c.args.p.now) (summed_from c.seeking.i (namings_of ns))) c.in-Some.ensures.cases.0
      ∙ summed_gone (λ j. has_name j c.args.p.now) (name_with c.seeking.i) (summed_from (c.seeking.i + 1) (namings_of c.in-Some.more.now))
      c.in-Some.info.now.role (sym c.is_summed_in.ensures ∙ c.if-is_summed_in.false),
  omega (arith, c.seeking.invariant.1, c.in-Some.ensures.cases.1),
)
