use Rattle.ct_ore.proofs.Base.{◌≡◌, ◌+◌, ◌-◌, ◌/◌, ◌<◌, ℕ, suc, ◌∙◌, subst, sym, ap, arith, length, take, drop, mono_cmp, mono_same, mono_tied}
use Rattle.ct_ore.specs.declared.coefficient_term.CoefficientTerm.{CoefficientTerm}
use Rattle.ct_ore.specs.Lists.{AllHave, StartsOther}
use Rattle.ct_ore.proofs.Runs.{ends_other, same_before, other_at}
use Rattle.ct_ore.proofs.coefficients.run_length.Goals as goal

pub halving-init : goal.halving-init
halving-init c = record { same = tt; other = ends_other c.args.m.now c.args.ts.now; order = omega arith; within = omega arith }

pub halving-preserved-in-Equal : goal.halving-preserved-in-Equal
halving-preserved-in-Equal c =
    let middle : ℕ = c.halving.low + (c.halving.high - c.halving.low) / 2 in
    let within : middle < c.halving.high = omega (arith, c.halving-test.true) in
    let inside : middle < length c.args.ts.now = omega (arith, within, c.halving.invariant.within) in
    let more : middle + 1 ≡ suc middle = omega arith in
    record {
      same = subst (λ n. AllHave c.args.m.now (take n c.args.ts.now)) (sym more)
          (same_before c.args.m.now c.args.ts.now middle c.index-ts-middle.result inside c.index-ts-middle.is c.requires.written c.requires.first
          (ap (λ (t : CoefficientTerm). t.symbols) c.index-ts-middle.is ∙ mono_tied _ _ (sym c.in-Equal.ensures)));
      other = c.halving.invariant.other;
      order = omega (arith, within);
      within = c.halving.invariant.within;
    }

pub halving-preserved : goal.halving-preserved
halving-preserved c =
    let middle : ℕ = c.halving.low + (c.halving.high - c.halving.low) / 2 in
    let within : middle < c.halving.high = omega (arith, c.halving-test.true) in
    let inside : middle < length c.args.ts.now = omega (arith, within, c.halving.invariant.within) in
    record {
      same = c.halving.invariant.same;
      other = other_at c.args.m.now c.args.ts.now middle c.index-ts-middle.result inside c.index-ts-middle.is
          (λ same. c.in_default.not-Equal
          (c.cmp.ensures ∙ ap (λ s. mono_cmp s c.args.m.now) (sym (ap (λ (t : CoefficientTerm). t.symbols) c.index-ts-middle.is) ∙ same)
          ∙ mono_same c.args.m.now));
      order = omega arith;
      within = omega (arith, inside);
    }

pub returns : goal.returns
returns c =
    let ended : c.halving.low ≡ c.halving.high = omega (arith, c.halving-test.false, c.halving.invariant.order) in
    record {
      same = c.halving.invariant.same;
      other = subst (λ n. StartsOther c.args.m.now (drop n c.args.ts.now)) (sym ended) c.halving.invariant.other;
      within = omega (arith, c.halving.invariant.order, c.halving.invariant.within);
    }
