use Rattle.ct_frac.proofs.Base.{◌≡◌, ltb, length, list_any, exp}
use Rattle.ct_poly.specs.Terms.{entries}
use Rattle.ct_frac.proofs.delta.is_in_terms.Given as goal

abbrev pub invariant-seeking : goal.invariant-seeking
invariant-seeking l = list_any (λ e. ltb 0 (exp e.0 l.i)) (entries l.fn.ts) ≡ list_any (λ e. ltb 0 (exp e.0 l.i)) (entries l.rest)

abbrev pub decreases-seeking : goal.decreases-seeking
decreases-seeking l = length l.rest
