-- Values over 1 are computed as their operators are. Main lemmas `plus_over_one`, `minus_over_one`, `negated_over_one` and
-- `times_over_one`, which rest on `lowest_one` and on the multiple by 1.
use Rattle.ct_expr.proofs.Base.{◌≡◌, refl, ◌≤◌, Ok, ◌∙◌, ap, arith, Name, Action, Operator, no_operator, greatest_common, least_common, largest_norm}
use Rattle.ct_expr.proofs.Base.{checked_whole, whole_fits, term_norm, checked_sum, checked_difference, checked_product}
use Rattle.ct_ore.proofs.WholeMultiples.{once}
use Rattle.ct_expr.specs.ValueArithmetic.{over_one, negated, cleared, checked_plus, checked_minus, checked_times}
use Rattle.ct_expr.proofs.ValueArithmetic.{lowest_one}

least_of_ones : least_common 1 1 ≡ 1
unfolding least_common greatest_common
least_of_ones = refl

common_one : checked_whole (least_common 1 1) ≡ Ok 1
common_one = ap checked_whole least_of_ones ∙ whole_fits 1 (omega arith)

pub negated_over_one : (x r : Operator) → checked_difference no_operator x ≡ Ok r → negated (over_one x) ≡ Ok (over_one r)
unfolding negated
negated_over_one x r e = rw e refl

module _ (a : Name → Action) (x y r : Operator) where
  cleared_over_one : term_norm x ≤ largest_norm → term_norm y ≤ largest_norm →
      cleared a (over_one x) (over_one y) ≡ Ok (record { whole = 1; mine = x; its = y })
  unfolding cleared
  cleared_over_one small small_too = rw (common_one, once a x small, once a y small_too) refl

  pub plus_over_one : term_norm x ≤ largest_norm → term_norm y ≤ largest_norm → checked_sum x y ≡ Ok r →
      checked_plus a (over_one x) (over_one y) ≡ Ok (over_one r)
  unfolding checked_plus
  plus_over_one small small_too e = rw (cleared_over_one small small_too, e, lowest_one r) refl

  pub minus_over_one : term_norm x ≤ largest_norm → term_norm y ≤ largest_norm → checked_difference x y ≡ Ok r →
      checked_minus a (over_one x) (over_one y) ≡ Ok (over_one r)
  unfolding checked_minus
  minus_over_one small small_too e = rw (cleared_over_one small small_too, e, lowest_one r) refl

  pub times_over_one : checked_product a x y ≡ Ok r → checked_times a (over_one x) (over_one y) ≡ Ok (over_one r)
  unfolding checked_times
  times_over_one e = rw (e, whole_fits 1 (omega arith), lowest_one r) refl
