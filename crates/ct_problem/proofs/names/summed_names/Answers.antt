use Rattle.ct_problem.proofs.Base.{◌≡◌, ◌<◌, ◌≤◌, ◌++◌, [], ◌∷◌, length, arith, refl, sym, ◌∙◌, All-append, naming_of, summed_of}
use Rattle.ct_problem.proofs.SummedNames.{summed_name, other_name, all_names, one_known}
use Rattle.ct_problem.proofs.names.summed_names.Goals as goal
use Rattle.ct_problem.proofs.names.summed_names.Goals.{then-is_summed+in_ok-push, else-is_summed}

pub loop-i-init : goal.loop-i-init
unfolding summed_of
loop-i-init c = record { names = rw c.new-found.ensures.items refl; known = rw c.new-found.ensures.items (λ k d below. absurd (omega arith)) }

pub loop-i-preserved : goal.loop-i-preserved
loop-i-preserved c =
    let ns = c.args.algebra.now in
    let found = c.loop-i.found.items in
    let here = c.info.ensures in
    let names = c.loop-i.invariant.names in
    let known = c.loop-i.invariant.known in
    let below : c.loop-i.i < length ns = omega (arith, c.count-i-end.ensures) in
    elim c.if-is_summed.branch [
      | then-is_summed+in_ok-push w ↦
          let items : c.if-is_summed.found.items ≡ found ++ c.loop-i.i ∷ [] = rw w.found-is w.in_ok-push.ensures.items in
          record {
            names = rw items (summed_name _ ns c.loop-i.i found (naming_of c.info.result.now) here
                (sym c.is_summed.ensures ∙ w.if-is_summed.true) names);
            known = rw items (All-append (λ k. k < length ns) found (c.loop-i.i ∷ []) known (one_known (length ns) c.loop-i.i below));
          }
      | else-is_summed w ↦ rw w.found-is (record {
        names = other_name _ ns c.loop-i.i found (naming_of c.info.result.now) here (sym c.is_summed.ensures ∙ w.if-is_summed.false) names;
        known = known;
      })
    ]

pub returns : goal.returns
returns c =
    let done : length c.args.algebra.now ≤ c.loop-i.i = omega (arith, c.count-i-end.ensures) in
    record { names = all_names _ c.args.algebra.now c.loop-i.i c.loop-i.found.items done c.loop-i.invariant.names; known = c.loop-i.invariant.known }
