-- The lists that the code makes of shifts: `shifted_of_one` for one term by a row of the table, `shifted_of_none` and
-- `shifted_of_halves` for a list that is halved. Main lemma `shifted_of_halves`; cited by shift.rt.
-- The table reaches the greatest exponent, and its powers are within the limit since some term has a coefficient.
use Rattle.ct_poly.proofs.Base.{◌≡◌, ℕ, ◌+◌, ◌*◌, ◌^◌, ◌≤◌, ◌<◌, nat_abs, max, List, [], ◌∷◌, ◌++◌, length, sym, ◌∙◌, ap, ap₂, subst, subst₂, arith}
use Rattle.ct_poly.proofs.Base.{mul-le-mul_left, sum_by-cons, sum_by-append, monomials, exp, total, name_with, polys, plus, plus_is, times}
use Rattle.ct_poly.proofs.Base.{IsCanonical, int_group, front_canonical, back_canonical, with_exponent, largest_degree, largest_norm}
use Rattle.ct_poly.proofs.Base.{total-with_exponent}
use Rattle.ct_poly.specs.declared.term.Term.{Term}
use Rattle.ct_poly.specs.declared.shift.Powers.{Powers}
use Rattle.ct_poly.specs.Measures.{shifted}
use Rattle.ct_poly.specs.Powers.{IsPower, CanShift}
use Rattle.ct_poly.specs.Terms.{entries, size_of, greatest_total, greatest_exp, shift_size, shift_length, IsFalling, IsListOf, CanMultiply}
use Rattle.ct_poly.specs.Terms.{poly_of_terms}
use Rattle.ct_poly.proofs.BinomialPowers.{power_few, power_low}
use Rattle.ct_poly.proofs.Products.{size_of-one, greatest_total-append}
use Rattle.ct_poly.proofs.ShiftValues.{shifted-sum, shifted-zero, shifted-term}
use Rattle.ct_poly.proofs.TermLists.{no_length, entries-append, poly_of-one, poly_of-none, poly_of-append}

-- the terms of a shifted list
abbrev pub IsShiftOf : ℕ → ℕ → List Term → List Term → Type 0
IsShiftOf i a ts v = IsListOf (shifted (name_with i) a (poly_of_terms ts)) (shift_length i ts) (shift_size i a ts) v

weight : ℕ → ℕ → Term → ℕ
weight i a t = nat_abs t.coef * (1 + a) ^ exp t.mono i

-- ---- one term

module _ (i : ℕ) (known : i < 6) (a : ℕ) (positive : 0 < a) (t : Term) (row : List Term) (power : IsPower i a (exp t.mono i) row) where
  abbrev rest : Term
  rest = record { mono = with_exponent i 0 t.mono; coef = t.coef }

  weight-one : shift_size i a (t ∷ []) ≡ nat_abs t.coef * (1 + a) ^ exp t.mono i
  weight-one = omega (arith, sum_by-cons (λ t. nat_abs t.coef * (1 + a) ^ exp t.mono i) t [])

  within : nat_abs t.coef * size_of row ≤ nat_abs t.coef * (1 + a) ^ exp t.mono i
  within = mul-le-mul_left (nat_abs t.coef) power.small

  pub rest_can_multiply : IsFalling (t ∷ []) → total t.mono ≤ largest_degree → shift_size i a (t ∷ []) ≤ largest_norm → CanMultiply (rest ∷ []) row
  rest_can_multiply falling low small = record {
    first = (falling.0, tt, tt);
    second = power.falling;
    degrees = omega (arith, power_low i known a positive (exp t.mono i) row power, total-with_exponent i 0 t.mono known, low);
    sizes = omega (arith, ap (λ n. n * size_of row) (size_of-one rest), within, weight-one, small);
  }

  pub shifted_of_one :
      (v : List Term) → IsListOf (times (poly_of_terms (rest ∷ [])) (poly_of_terms row)) (length row) (nat_abs t.coef * size_of row) v →
      IsShiftOf i a (t ∷ []) v
  shifted_of_one v l = record {
    falling = l.falling;
    value = l.value ∙ ap₂ times (poly_of-one rest) power.value
        ∙ sym (ap (shifted (name_with i) a) (poly_of-one t) ∙ shifted-term i known a t.mono t.coef);
    few = omega (arith, l.few, power_few i known a positive (exp t.mono i) row power, sum_by-cons (λ t. exp t.mono i + 1) t []);
    small = omega (arith, l.small, within, weight-one);
  }

-- ---- a list in halves

pub shifted_of_none : (i a : ℕ) (ts v : List Term) → length ts ≡ 0 → v ≡ [] → IsShiftOf i a ts v
shifted_of_none i a ts v none empty = subst₂ (λ us w. IsShiftOf i a us w) (sym (no_length ts none)) (sym empty) (record {
  falling = tt;
  value = poly_of-none ∙ sym (shifted-zero (name_with i) a) ∙ ap (shifted (name_with i) a) (sym poly_of-none);
  few = omega arith;
  small = omega arith;
})

greatest_exp-append : (i : ℕ) (ts us : List Term) → greatest_exp i (ts ++ us) ≡ max (greatest_exp i ts) (greatest_exp i us)
greatest_exp-append i [] us = omega arith
greatest_exp-append i (t ∷ ts) us = omega (arith, greatest_exp-append i ts us)

module _ (table : Powers) (ts front back : List Term) (parts : ts ≡ front ++ back) (can : CanShift table ts) where
  falling_parts : IsCanonical monomials int_group (entries front ++ entries back)
  falling_parts = subst (IsCanonical monomials int_group) (ap entries parts ∙ entries-append front back) can.falling

  sizes_of_parts : shift_size table.name table.by ts ≡ shift_size table.name table.by front + shift_size table.name table.by back
  sizes_of_parts =
      ap (shift_size table.name table.by) parts ∙ sum_by-append (λ t. nat_abs t.coef * (1 + table.by) ^ exp t.mono table.name) front back

  pub can_shift_front : CanShift table front
  can_shift_front = record {
    falling = front_canonical monomials int_group (entries front) (entries back) falling_parts;
    low = omega (arith, can.low, ap greatest_total parts, greatest_total-append front back);
    small = omega (arith, can.small, sizes_of_parts);
    reaches = omega (arith, can.reaches, ap (greatest_exp table.name) parts, greatest_exp-append table.name front back);
  }

  pub can_shift_back : CanShift table back
  can_shift_back = record {
    falling = back_canonical monomials int_group (entries front) (entries back) falling_parts;
    low = omega (arith, can.low, ap greatest_total parts, greatest_total-append front back);
    small = omega (arith, can.small, sizes_of_parts);
    reaches = omega (arith, can.reaches, ap (greatest_exp table.name) parts, greatest_exp-append table.name front back);
  }

  module _ (u v : List Term) (left : IsShiftOf table.name table.by front u) (right : IsShiftOf table.name table.by back v) where
    pub shifted_halves_small : size_of u + size_of v ≤ largest_norm
    shifted_halves_small = omega (arith, can.small, sizes_of_parts, left.small, right.small)

    pub shifted_of_halves :
        (w : List Term) → IsListOf (plus (poly_of_terms u) (poly_of_terms v)) (length u + length v) (size_of u + size_of v) w →
        IsShiftOf table.name table.by ts w
    shifted_of_halves w sum = record {
      falling = sum.falling;
      value = sum.value ∙ plus_is _ _ ∙ ap₂ polys.◌+◌ left.value right.value
          ∙ sym (ap (λ us. shifted (name_with table.name) table.by (poly_of_terms us)) parts
          ∙ ap (shifted (name_with table.name) table.by) (poly_of-append front back) ∙ shifted-sum (name_with table.name) table.by _ _);
      few = omega (
        arith,
        sum.few,
        left.few,
        right.few,
        ap (shift_length table.name) parts,
        sum_by-append (λ t. exp t.mono table.name + 1) front back,
      );
      small = omega (arith, sum.small, left.small, right.small, sizes_of_parts);
    }
