use Rattle.ct_int.proofs.Base.{rules, sym, ◌∙◌, ap₂, pos, ◌+ℤ◌, ◌*ℤ◌, subst, unsigned_abs, inl, inr, ◌/◌, ◌*◌, ◌+◌, ◌<◌, ◌≤◌, w128, to_z-of_z}
use Rattle.ct_int.proofs.Base.{err_from_is_err_and, pos_of_dvd_of_pos}
use Rattle.ct_int.proofs.OperationLaws.{lowest-sum, sum-fits, sum_den-positive}
use Rattle.ct_int.specs.Rational.{ratio, IsLowestTerms}
use Rattle.ct_int.specs.Limits.{largest_whole}
use Rattle.ct_int.proofs.rat.Rat.add.Goals as goal

pub nonzero_div-left : goal.nonzero_div-left
nonzero_div-left c = pos_of_dvd_of_pos c.gcd-divisor.ensures.1 c.other.invariant.lowest.positive

pub nonzero_div-right : goal.nonzero_div-right
nonzero_div-right c = pos_of_dvd_of_pos c.gcd-divisor.ensures.1 c.other.invariant.lowest.positive

pub returns-in_err-num-clause-overflows : goal.returns-in_err-num-clause-overflows
returns-in_err-num-clause-overflows c =
    let exit = err_from_is_err_and c.from_residual.result c.from_residual.ensures.1 in
    let mine = to_z-of_z w128 c.self.inside.num (search rules) in
    let its = to_z-of_z w128 c.other.inside.num (search rules) in
    let measure = ap₂ (λ x y. unsigned_abs x * (c.other.inside.den / c.gcd-divisor.result) + unsigned_abs y *
    (c.self.inside.den / c.gcd-divisor.result)) mine its in
    rw (exit.1, exit.2, ← c.self.view_is, ← c.other.view_is) (
      c.in_err-num.ensures.0,
      record {
        divisor = c.gcd-divisor.result;
        greatest = c.gcd-divisor.ensures;
        past = inl (subst (λ n. largest_whole < n) measure c.in_err-num.ensures.1);
      },
    )

pub returns-in_err-den-clause-overflows : goal.returns-in_err-den-clause-overflows
returns-in_err-den-clause-overflows c =
    let exit = err_from_is_err_and c.from_residual-in_err-den.result c.from_residual-in_err-den.ensures.1 in
    rw (exit.1, exit.2, ← c.self.view_is, ← c.other.view_is)
    (c.in_err-den.ensures.0, record { divisor = c.gcd-divisor.result; greatest = c.gcd-divisor.ensures; past = inr c.in_err-den.ensures.1 })

pub reduced-requires-clause-positive : goal.reduced-requires-clause-positive
reduced-requires-clause-positive c =
    subst (λ n. 0 < n) (sym c.in_ok-den.ensures.0)
    (sum_den-positive (ratio c.self.inside.num (pos c.self.inside.den))
    (ratio c.other.inside.num (pos c.other.inside.den)) c.gcd-divisor.result c.self.invariant.lowest c.other.invariant.lowest
    c.gcd-divisor.ensures)

pub returns-clause-value : goal.returns-clause-value
returns-clause-value c =
    let mine = to_z-of_z w128 c.self.inside.num (search rules) in
    let its = to_z-of_z w128 c.other.inside.num (search rules) in
    let num = to_z-of_z w128 c.in_ok-num.num (search rules) ∙ c.in_ok-num.ensures.0
    ∙ ap₂ (λ x y. x *ℤ pos (c.other.inside.den / c.gcd-divisor.result) +ℤ y *ℤ pos (c.self.inside.den / c.gcd-divisor.result)) mine its in
    let terms = subst (λ r. IsLowestTerms r c.reduced.result) (ap₂ (λ n d. ratio n (pos d)) num c.in_ok-den.ensures.0) c.reduced.ensures in
    rw (← c.self.view_is, ← c.other.view_is)
    (lowest-sum (ratio c.self.inside.num (pos c.self.inside.den))
    (ratio c.other.inside.num (pos c.other.inside.den)) c.reduced.result c.gcd-divisor.result c.self.invariant.lowest c.other.invariant.lowest
    c.gcd-divisor.ensures terms)

pub returns-clause-overflows : goal.returns-clause-overflows
returns-clause-overflows c =
    let mine = to_z-of_z w128 c.self.inside.num (search rules) in
    let its = to_z-of_z w128 c.other.inside.num (search rules) in
    let measure = ap₂ (λ x y. unsigned_abs x * (c.other.inside.den / c.gcd-divisor.result) + unsigned_abs y *
    (c.self.inside.den / c.gcd-divisor.result)) mine its in
    let den : c.self.inside.den / c.gcd-divisor.result * c.other.inside.den ≤ largest_whole =
    subst (λ n. n ≤ largest_whole) c.in_ok-den.ensures.0 c.in_ok-den.ensures.1 in
    rw (← c.self.view_is, ← c.other.view_is)
    (sum-fits (ratio c.self.inside.num (pos c.self.inside.den))
    (ratio c.other.inside.num (pos c.other.inside.den)) c.gcd-divisor.result c.gcd-divisor.ensures
    (subst (λ n. n ≤ largest_whole) measure c.in_ok-num.ensures.1) den)
