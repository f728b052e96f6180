use Rattle.ct_int.proofs.Base.{rules, ◌≡◌, ℤ, sym, ◌∙◌, ap₂, pos, ◌*ℤ◌, ◌*◌, ◌<◌, subst, unsigned_abs, inl, inr, w128, to_z-of_z, unsigned_abs-mul}
use Rattle.ct_int.proofs.Base.{err_from_is_err_and}
use Rattle.ct_int.proofs.LowestTerms.{lowest-product, product-fits}
use Rattle.ct_int.specs.Rational.{Ratio, ratio, IsCancelled, IsLowestTerms, product_of_ratios}
use Rattle.ct_int.specs.Limits.{IsRational, largest_whole}
use Rattle.ct_int.proofs.rat.Rat.mul.Goals as goal

-- the lowest terms of a product, from numerators that are read as m and n
crossed :
    (p q s t : Ratio) (m n : ℤ) →
    IsRational p →
    IsRational q →
    m ≡ p.num →
    n ≡ q.num →
    IsCancelled (ratio m (pos q.den)) s →
    IsCancelled (ratio n (pos p.den)) t →
    IsLowestTerms (product_of_ratios p q) (ratio (s.num *ℤ t.num) (pos (t.den * s.den)))
crossed p q s t m n first second mine its left right =
    lowest-product p q s t first.lowest second.lowest (subst (λ z. IsCancelled (ratio z (pos q.den)) s) mine left)
    (subst (λ z. IsCancelled (ratio z (pos p.den)) t) its right)

pub returns-in_err-num-clause-overflows : goal.returns-in_err-num-clause-overflows
returns-in_err-num-clause-overflows c =
    let exit = err_from_is_err_and c.from_residual.result c.from_residual.ensures.1 in
    let s = ratio c.cancelled-left.result.0 (pos c.cancelled-left.result.1) in
    let t = ratio c.cancelled-right.result.0 (pos c.cancelled-right.result.1) in
    let terms = crossed (ratio c.self.inside.num (pos c.self.inside.den))
    (ratio c.other.inside.num (pos c.other.inside.den)) s t _ _ c.self.invariant c.other.invariant
    (to_z-of_z w128 c.self.inside.num (search rules))
    (to_z-of_z w128 c.other.inside.num (search rules)) c.cancelled-left.ensures c.cancelled-right.ensures in
    let size = ap₂ (λ m n. unsigned_abs m * unsigned_abs n) (to_z-of_z w128 s.num (search rules)) (to_z-of_z w128 t.num (search rules))
    ∙ sym (unsigned_abs-mul s.num t.num) in
    rw (exit.1, exit.2, ← c.self.view_is, ← c.other.view_is) (
      c.in_err-num.ensures.0,
      record {
        terms = ratio (s.num *ℤ t.num) (pos (t.den * s.den));
        lowest = terms;
        past = inl (subst (λ n. largest_whole < n) size c.in_err-num.ensures.1);
      },
    )

pub returns-in_err-den-clause-overflows : goal.returns-in_err-den-clause-overflows
returns-in_err-den-clause-overflows c =
    let exit = err_from_is_err_and c.from_residual-in_err-den.result c.from_residual-in_err-den.ensures.1 in
    let s = ratio c.cancelled-left.result.0 (pos c.cancelled-left.result.1) in
    let t = ratio c.cancelled-right.result.0 (pos c.cancelled-right.result.1) in
    let terms = crossed (ratio c.self.inside.num (pos c.self.inside.den))
    (ratio c.other.inside.num (pos c.other.inside.den)) s t _ _ c.self.invariant c.other.invariant
    (to_z-of_z w128 c.self.inside.num (search rules))
    (to_z-of_z w128 c.other.inside.num (search rules)) c.cancelled-left.ensures c.cancelled-right.ensures in
    rw (exit.1, exit.2, ← c.self.view_is, ← c.other.view_is)
    (c.in_err-den.ensures.0, record { terms = ratio (s.num *ℤ t.num) (pos (t.den * s.den)); lowest = terms; past = inr c.in_err-den.ensures.1 })

reached : (c : goal.In_ok-den) →
    IsLowestTerms (product_of_ratios (ratio c.self.inside.num (pos c.self.inside.den)) (ratio c.other.inside.num (pos c.other.inside.den)))
    (ratio c.in_ok-num.num (pos c.in_ok-den.den))
reached c =
    let s = ratio c.cancelled-left.result.0 (pos c.cancelled-left.result.1) in
    let t = ratio c.cancelled-right.result.0 (pos c.cancelled-right.result.1) in
    let p = ratio c.self.inside.num (pos c.self.inside.den) in
    let q = ratio c.other.inside.num (pos c.other.inside.den) in
    let num = c.in_ok-num.ensures.0 ∙ ap₂ (λ m n. m *ℤ n) (to_z-of_z w128 s.num (search rules)) (to_z-of_z w128 t.num (search rules)) in
    subst (λ r. IsLowestTerms (product_of_ratios p q) r) (ap₂ (λ n d. ratio n (pos d)) (sym num) (sym c.in_ok-den.ensures.0))
    (crossed p q s t _ _ c.self.invariant c.other.invariant (to_z-of_z w128 c.self.inside.num (search rules))
    (to_z-of_z w128 c.other.inside.num (search rules)) c.cancelled-left.ensures c.cancelled-right.ensures)

rational : (c : goal.In_ok-den) → IsRational (ratio c.in_ok-num.num (pos c.in_ok-den.den))
rational c = record { lowest = (reached c).lowest; num_within = c.in_ok-num.ensures.1; den_within = c.in_ok-den.ensures.1 }

pub invariant_of-result : goal.invariant_of-result
invariant_of-result c =
    let kept = to_z-of_z w128 c.in_ok-num.num (search rules) in
    subst (λ n. IsRational (ratio n (pos c.in_ok-den.den))) (sym kept) (rational c)

pub returns-clause-value : goal.returns-clause-value
returns-clause-value c =
    let kept = to_z-of_z w128 c.in_ok-num.num (search rules) in
    rw (← c.self.view_is, ← c.other.view_is)
    (subst (λ n. IsLowestTerms
    (product_of_ratios (ratio c.self.inside.num (pos c.self.inside.den)) (ratio c.other.inside.num (pos c.other.inside.den)))
    (ratio n (pos c.in_ok-den.den))) (sym kept) (reached c))

pub returns-clause-overflows : goal.returns-clause-overflows
returns-clause-overflows c =
    rw (← c.self.view_is, ← c.other.view_is)
    (product-fits (ratio c.self.inside.num (pos c.self.inside.den)) (ratio c.other.inside.num (pos c.other.inside.den))
    (ratio c.in_ok-num.num (pos c.in_ok-den.den)) c.self.invariant.lowest.positive c.other.invariant.lowest.positive (reached c) (rational c))
