-- The steps of a sum, a difference and a product of values that do not overflow. Main lemmas `plus_steps`, `minus_steps` and
-- `times_steps`, which the laws of values cite.
use Rattle.ct_expr.proofs.Base.{◌≡◌, ℕ, ◌*◌, ◌/◌, Ok, ap, ap₂, ◌∙◌, Name, Action, Operator, least_common, Checked, both_fit, checked_whole}
use Rattle.ct_expr.proofs.Base.{checked_sum, checked_difference, checked_product, checked_multiple}
use Rattle.ct_expr.specs.declared.value.Cleared.{Cleared}
use Rattle.ct_expr.specs.ValueArithmetic.{Value, lowest, cleared, checked_plus, checked_minus, checked_times}

-- both cleared to the least common multiple, and joined by an operation
pub record Joins (a : Name → Action) (operation : Operator → Operator → Checked Operator) (v w r : Value) : Type 0 where
  pub whole : ℕ
  pub mine : Operator
  pub its : Operator
  pub total : Operator
  pub common : checked_whole (least_common v.whole w.whole) ≡ Ok whole
  pub first : checked_multiple a (whole / v.whole) v.operator ≡ Ok mine
  pub second : checked_multiple a (whole / w.whole) w.operator ≡ Ok its
  pub joined : operation mine its ≡ Ok total
  pub last : lowest total whole ≡ r

pub record Multiplies (a : Name → Action) (v w r : Value) : Type 0 where
  pub product : Operator
  pub whole : ℕ
  pub operators : checked_product a v.operator w.operator ≡ Ok product
  pub wholes : checked_whole (v.whole * w.whole) ≡ Ok whole
  pub last : lowest product whole ≡ r

module _ (a : Name → Action) (v w r : Value) where
  clear : (c : Cleared) (total : Operator) (operation : Operator → Operator → Checked Operator) → cleared a v w ≡ Ok c →
      operation c.mine c.its ≡ Ok total → lowest total c.whole ≡ r → Joins a operation v w r
  unfolding cleared
  clear c total operation e joined last =
      let common = both_fit (checked_whole (least_common v.whole w.whole)) _ c e in
      let first = both_fit (checked_multiple a (common.value / v.whole) v.operator) _ c common.rest in
      let second = both_fit (checked_multiple a (common.value / w.whole) w.operator) _ c first.rest in
      let same : record { whole = common.value; mine = first.value; its = second.value } ≡ c = let e = second.rest in cc in
      record {
        whole = common.value;
        mine = first.value;
        its = second.value;
        total = total;
        common = common.first;
        first = first.first;
        second = second.first;
        joined = ap₂ operation (ap (λ (d : Cleared). d.mine) same) (ap (λ (d : Cleared). d.its) same) ∙ joined;
        last = ap (λ (d : Cleared). lowest total d.whole) same ∙ last;
      }

  pub plus_steps : checked_plus a v w ≡ Ok r → Joins a checked_sum v w r
  unfolding checked_plus
  plus_steps e =
      let both = both_fit (cleared a v w) _ r e in
      let sum = both_fit (checked_sum both.value.mine both.value.its) _ r both.rest in
      let last : lowest sum.value both.value.whole ≡ r = let e = sum.rest in cc in
      clear both.value sum.value checked_sum both.first sum.first last

  pub minus_steps : checked_minus a v w ≡ Ok r → Joins a checked_difference v w r
  unfolding checked_minus
  minus_steps e =
      let both = both_fit (cleared a v w) _ r e in
      let difference = both_fit (checked_difference both.value.mine both.value.its) _ r both.rest in
      let last : lowest difference.value both.value.whole ≡ r = let e = difference.rest in cc in
      clear both.value difference.value checked_difference both.first difference.first last

  pub times_steps : checked_times a v w ≡ Ok r → Multiplies a v w r
  unfolding checked_times
  times_steps e =
      let product = both_fit (checked_product a v.operator w.operator) _ r e in
      let whole = both_fit (checked_whole (v.whole * w.whole)) _ r product.rest in
      let last : lowest product.value whole.value ≡ r = let e = whole.rest in cc in
      record { product = product.value; whole = whole.value; operators = product.first; wholes = whole.first; last = last }
