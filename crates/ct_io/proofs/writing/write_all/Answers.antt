use Rattle.std.proofs.Common.{arith, rules}
use Rattle.std.proofs.KnownBytes.{Appends-trans}
use Rattle.std.proofs.Math.Seq.{take-add}
use Rattle.ct_io.proofs.writing.write_all.Goals as goal

pub loop-at-preserved : goal.loop-at-preserved
loop-at-preserved g c =
    let at = c.loop-at.at in
    let text = c.args.text.now in
    let added = rw c.split_at.ensures.back at c.in-Ok.ensures.taken in
    record {
      within = omega (arith, c.split_at.ensures.back_len, c.loop-at.invariant.within, c.in-Ok.ensures.bound);
      taken = rw (take-add at c.in-Ok.count text) (Appends-trans _ _ _ _ _ c.loop-at.invariant.taken added);
      faults = search rules;
    }
