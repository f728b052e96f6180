use Rattle.ct_ore.proofs.Base.{◌≡◌, ◌++◌, ◌+◌, length, option_to_list, MatchOption, into_iter_items, into_iter_len}
use Rattle.ct_ore.proofs.AddingSteps.{IsMerging}
use Rattle.ct_ore.proofs.merging.merged_terms.Given as goal

-- an iterator that gave nothing has nothing left
abbrev pub invariant-merging : goal.invariant-merging
invariant-merging l = record {
  adding : IsMerging l.fn.ps.items l.fn.qs.items l.out.items (option_to_list l.first ++ into_iter_items l.p)
      (option_to_list l.second ++ into_iter_items l.q);
  first_ends : MatchOption l.first (into_iter_len l.p ≡ 0) (λ _. Unit {0});
  second_ends : MatchOption l.second (into_iter_len l.q ≡ 0) (λ _. Unit {0});
}

abbrev pub decreases-merging : goal.decreases-merging
decreases-merging l =
    length (option_to_list l.first) + into_iter_len l.p + (length (option_to_list l.second) + into_iter_len l.q)
