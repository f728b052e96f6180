use Rattle.ct_ore.proofs.Base.{◌≡◌, ◌+◌, ◌-◌, ◌/◌, ◌<◌, ℕ, suc, subst, sym, arith, length, take}
use Rattle.ct_ore.specs.Lists.{AllBefore}
use Rattle.ct_ore.proofs.MergeSteps.{further_before}
use Rattle.ct_ore.proofs.sum.count_before.Goals as goal

pub halving-preserved-in-Less : goal.halving-preserved-in-Less
halving-preserved-in-Less c =
    let middle : ℕ = c.halving.low + (c.halving.high - c.halving.low) / 2 in
    let within : middle < c.halving.high = omega (arith, c.halving-test.true) in
    let inside : middle < length c.args.ts.now = omega (arith, within, c.halving.invariant.within) in
    let more : middle + 1 ≡ suc middle = omega arith in
    record {
      before = record {
        all = subst (λ n. AllBefore c.args.b.now (take n c.args.ts.now)) (sym more)
            (further_before c.args.b.now c.args.ts.now middle c.index-ts-middle.result inside c.index-ts-middle.is c.requires.written
            (sym c.in-Less.ensures));
        within = omega (arith, inside);
        some = omega (arith, inside);
      };
      order = omega (arith, within);
      within = c.halving.invariant.within;
    }
