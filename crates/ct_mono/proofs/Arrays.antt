-- Arrays of exponents against monomials: a quotient and the test for equality, as code computes them.
-- Main lemmas `over_of_differences`, `over_of_less`, `eq_of_arrays`. Cited by `Monomial`'s functions.
use Rattle.std.specs.Prelude.{◌≡◌, refl, ℕ, ◌+◌, ◌<◌, List, length, get_or, None, Some, nat_eq}
use Rattle.std.proofs.Common.{sym, ◌∙◌, ap, ap₂, arith}
use Rattle.std.specs.Cmp.Lexicographic.{pointwise}
use Rattle.ct_algebra.specs.Monomial.{Mono, exp, mono_of, exp-mono_of, exps-mono_of, ◌·◌}
use Rattle.ct_algebra.proofs.MonomialLists.{product_of_sums}
use Rattle.ct_mono.specs.Division.{over, over-·, over_refused}
use Rattle.ct_mono.specs.Equal.{mono_eq}

pub over_of_differences :
    {m d : Mono} (xs ys zs : List ℕ) → mono_of xs ≡ m → mono_of ys ≡ d →
    ((k : ℕ) → k < 6 → get_or zs k 0 + get_or ys k 0 ≡ get_or xs k 0) → Some (mono_of zs) ≡ over m d
over_of_differences {m} {d} xs ys zs whole part sums =
    let product : m ≡ mono_of zs · d = sym whole ∙ product_of_sums zs ys xs refl part (λ k small. sym (sums k small)) in
    sym (ap (λ m. over m d) product ∙ over-· (mono_of zs) d)

pub over_of_less :
    {m d : Mono} (xs ys : List ℕ) (k : ℕ) → mono_of xs ≡ m → mono_of ys ≡ d → k < 6 → get_or xs k 0 < get_or ys k 0 →
    None ≡ over m d
over_of_less {m} {d} xs ys k whole part small less =
    sym (over_refused m d k small
    (omega (
      arith,
      less,
      ap (λ m. exp m k) whole,
      ap (λ m. exp m k) part,
      exp-mono_of xs k small,
      exp-mono_of ys k small,
    )))

pub eq_of_arrays :
    {m n : Mono} (xs ys : List ℕ) → length xs ≡ 6 → length ys ≡ 6 → mono_of xs ≡ m → mono_of ys ≡ n →
    pointwise nat_eq xs ys ≡ mono_eq m n
eq_of_arrays xs ys six also left right =
    ap₂ (pointwise nat_eq) (sym (exps-mono_of xs six) ∙ ap (λ m. m.exps) left)
    (sym (exps-mono_of ys also) ∙ ap (λ m. m.exps) right)
