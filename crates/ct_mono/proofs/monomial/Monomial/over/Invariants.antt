use Rattle.std.proofs.Common.{◌≡◌, ℕ, ◌+◌, ◌<◌, get_or, length}
use Rattle.ct_mono.proofs.monomial.Monomial.over.Given as goal

abbrev pub invariant-loop-i : goal.invariant-loop-i
invariant-loop-i l =
    record {
      six : length l.exps ≡ 6;
      sums : (k : ℕ) → k < l.i →
          get_or l.exps k 0 + get_or l.its k 0 ≡ get_or l.mine k 0;
    }
