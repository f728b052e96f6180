use Rattle.ct_poly.proofs.Base.{◌≡◌, ◌∙◌, sym, subst, is_gt, true, rules, mono_turned_back}
use Rattle.ct_poly.specs.Accumulation.{BeginsAbove}
use Rattle.ct_poly.proofs.MergedMultiples.{greater_is}
use Rattle.ct_poly.proofs.accumulation.after_block.Goals as goal

pub returns-then-is_gt : goal.returns-then-is_gt
returns-then-is_gt c =
    let told : is_gt c.cmp.result ≡ true = search rules in
    record {
      block = c.split_at.result.0.now;
      whole = c.split_at.ensures.by_index.0;
      long = c.split_at.ensures.front_len;
      above = subst (BeginsAbove c.args.mono.now) (sym c.in_ok-a.ensures.cases.0)
          (mono_turned_back _ _ (sym c.cmp.ensures ∙ greater_is c.cmp.result told));
    }
