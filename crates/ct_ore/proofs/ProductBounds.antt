-- Totals and sizes on the way of a product: each step stays within the measures of the whole.
-- Main lemmas `way_fits`, `can_expand`, `can_scale`, `can_multiply_parts`. Cited by the code that makes the terms.
use Rattle.ct_ore.proofs.Base.{◌≡◌, ℕ, zero, suc, ◌+◌, ◌-◌, ◌*◌, ◌<◌, ◌≤◌, ℤ, pos, ◌*ℤ◌, nat_abs, List, [], ◌∷◌, ◌++◌, sym, ◌∙◌, ap, subst, arith}
use Rattle.ct_ore.proofs.Base.{eq-or-lt_of_le, mul-le-mul_left, mul-pos, ◌⊎◌, inl, inr, sum_by-append, sum_by_push, unsigned_abs-mul, Mono, exp}
use Rattle.ct_ore.proofs.Base.{total, Name, name_with, EachTerm, EachTerm-weaker, Action, Shift, Derive, Still, Polynomial, degree_greatest, norm}
use Rattle.ct_ore.proofs.Base.{norm_of, largest_degree, largest_norm, total-with_exponent, Option, Some, None}
use Rattle.ct_ore.specs.declared.coefficient_term.CoefficientTerm.{CoefficientTerm}
use Rattle.ct_ore.specs.CoefficientTerms.{size_of}
use Rattle.ct_ore.specs.PairTerms.{listed, lowered_term, raised_term, raised, expanded_below, expanded, multiplied_by, product_terms}
use Rattle.ct_ore.specs.Kinds.{how_many, ways, symbols_left}
use Rattle.std.specs.Option.{unwrap_or}
use Rattle.ct_ore.specs.AllNames.{number_of_names, total_below}
use Rattle.ct_ore.specs.Bounds.{IsCapped, Within, EachWithin, CanRaise, CanExpandBelow, CanExpand, CanScale, HasRoom, CanMultiply}
use Rattle.ct_ore.specs.PairMeasures.{HasNumbers}
use Rattle.ct_ore.specs.Lists.{IsSorted}
use Rattle.ct_ore.proofs.Expansion.{product_parts}
use Rattle.ct_ore.proofs.Multiples.{each_parts}
use Rattle.ct_ore.proofs.PairCounts.{scaled-sum}
use Rattle.ct_ore.proofs.PairMeasureLaws.{six_total}
use Rattle.ct_ore.proofs.ProductMeasures.{expanded_below-larger, size_of-multiplied_by}
use Rattle.ct_ore.proofs.WayPositive.{ways-positive}

abbrev size : CoefficientTerm → ℕ
size t = nat_abs t.number

-- ---- lists of terms within bounds

pub within-append : (b d : ℕ) (xs ys : List CoefficientTerm) → EachWithin b d xs → EachWithin b d ys → EachWithin b d (xs ++ ys)
within-append b d [] ys h k = k
within-append b d (x ∷ xs) ys h k = (h.0, within-append b d xs ys h.1 k)

pub within-weaker : (b d b' d' : ℕ) → b ≤ b' → d ≤ d' → (xs : List CoefficientTerm) → EachWithin b d xs → EachWithin b' d' xs
within-weaker b d b' d' p q [] h = tt
within-weaker b d b' d' p q (x ∷ xs) h =
    (record { symbols = omega (arith, h.0.symbols); names = omega (arith, h.0.names); some = h.0.some }, within-weaker b d b' d' p q xs h.1)

pub have_numbers : (b d : ℕ) (ts : List CoefficientTerm) → EachWithin b d ts → HasNumbers ts
have_numbers b d [] h = tt
have_numbers b d (t ∷ ts) h = (h.0.some, have_numbers b d ts h.1)

within-listed :
    (b d n : ℕ) (f : ℕ → CoefficientTerm) → ((j : ℕ) → j < n → Within b d (f j)) → EachWithin b d (listed n f)
within-listed b d zero f h = tt
within-listed b d (suc n) f h = within-append b d (listed n f) (f n ∷ []) (within-listed b d n f (λ j l. h j (omega arith))) (h n (omega arith), tt)

left-le : (t : Action) (k j : ℕ) → symbols_left t k j ≤ k
left-le Shift k j = omega arith
left-le Derive k j = omega arith
left-le Still k j = omega arith

within-lowered :
    (b d : ℕ) (t : Action) (i k : ℕ) (u : CoefficientTerm) (j : ℕ) → i < 6 → j < how_many t k (exp u.names i) → Within b d u →
    Within (b + k) d (lowered_term t i k u j)
within-lowered b d t i k u j known below h = record {
  symbols = omega (arith, h.symbols, left-le t k j, total-with_exponent i (exp u.symbols i + symbols_left t k j) u.symbols known);
  names = omega (arith, h.names, total-with_exponent i (exp u.names i - j) u.names known);
  some = subst (λ n. 0 < n) (sym (unsigned_abs-mul u.number (pos (ways t k (exp u.names i) j))))
      (mul-pos h.some (ways-positive t k (exp u.names i) j below));
}

pub within-raised :
    (b d : ℕ) (t : Action) (i k : ℕ) (ts : List CoefficientTerm) → i < 6 → EachWithin b d ts → EachWithin (b + k) d (raised t i k ts)
within-raised b d t i k [] known h = tt
within-raised b d t i k (u ∷ ts) known h =
    within-append (b + k) d (raised_term t i k u) (raised t i k ts)
    (within-listed (b + k) d (how_many t k (exp u.names i)) (lowered_term t i k u) (λ j l. within-lowered b d t i k u j known l h.0))
    (within-raised b d t i k ts known h.1)

-- ---- raising one term after the other

size-raised-cons :
    (t : Action) (i k : ℕ) (u : CoefficientTerm) (ts : List CoefficientTerm) →
    size_of (raised t i k (u ∷ ts)) ≡ size_of (raised_term t i k u) + size_of (raised t i k ts)
size-raised-cons t i k u ts = sum_by-append size (raised_term t i k u) (raised t i k ts)

member-le : (n : ℕ) (f : ℕ → CoefficientTerm) (j : ℕ) → j < n → size (f j) ≤ size_of (listed n f)
member-le zero f j below = absurd (omega arith)
member-le (suc n) f j below = by (eq-or-lt_of_le (omega arith)) (member-le n f j)
  where
    by : (j ≡ n) ⊎ (j < n) → (j < n → size (f j) ≤ size_of (listed n f)) → size (f j) ≤ size_of (listed n f ++ f n ∷ [])
    by (inl same) before = omega (arith, ap (λ m. size (f m)) same, sum_by_push size (listed n f) (f n))
    by (inr less) before = omega (arith, before less, sum_by_push size (listed n f) (f n))

-- the number before a term fits, and so does the term's own
pub way_fits :
    (t : Action) (i k : ℕ) (u : CoefficientTerm) (j : ℕ) → CanRaise t i k (u ∷ []) → j < how_many t k (exp u.names i) →
    (ways t k (exp u.names i) j ≤ largest_norm) × (nat_abs u.number * ways t k (exp u.names i) j ≤ largest_norm)
way_fits t i k u j can below =
    let w = ways t k (exp u.names i) j in
    let member : nat_abs (u.number *ℤ pos w) ≤ size_of (raised_term t i k u) =
    member-le (how_many t k (exp u.names i)) (lowered_term t i k u) j below in
    let both : nat_abs u.number * w ≤ largest_norm =
    omega (arith, can.small, size-raised-cons t i k u [], member, unsigned_abs-mul u.number (pos w)) in
    (larger (nat_abs u.number) w can.each.0.some both, both)
  where
    larger : (n w : ℕ) → 0 < n → n * w ≤ largest_norm → w ≤ largest_norm
    larger zero w some h = absurd (omega arith)
    larger (suc n) w some h = omega arith

-- ---- a product of symbols, name after name

pub total_below-is : (m : Mono) → total_below number_of_names m ≡ total m
total_below-is m = omega (arith, six_total m)

module _ (a : Name → Action) (m : Mono) where
  within-expanded_below :
      (b d n : ℕ) → n ≤ number_of_names → (ts : List CoefficientTerm) → EachWithin b d ts →
      EachWithin (b + total_below n m) d (expanded_below a n m ts)
  within-expanded_below b d zero small ts h = within-weaker b d (b + 0) d (omega arith) (omega arith) ts h
  within-expanded_below b d (suc n) small ts h =
      within-weaker (b + exp m n + total_below n m) d (b + total_below (suc n) m) d (omega arith) (omega arith) _
      (within-expanded_below (b + exp m n) d n (omega arith) _ (within-raised b d (a (name_with n)) n (exp m n) ts (omega arith) h))

  module _ {n : ℕ} {ts : List CoefficientTerm} (small : suc n ≤ number_of_names) (can : CanExpandBelow a (suc n) m ts) where
    pub can_raise : CanRaise (a (name_with n)) n (exp m n) ts
    can_raise = record {
      order = can.order;
      room = omega (arith, can.room);
      each = can.each;
      small = omega (arith, can.small, expanded_below-larger a m n (raised (a (name_with n)) n (exp m n) ts));
    }

    pub can_go_on : CanExpandBelow a n m (raised (a (name_with n)) n (exp m n) ts)
    can_go_on = record {
      order = can.order + exp m n;
      room = omega (arith, can.room);
      each = within-raised can.order largest_degree (a (name_with n)) n (exp m n) ts (omega (arith, small)) can.each;
      small = can.small;
    }

  pub can_begin : {ts : List CoefficientTerm} → CanExpand a m ts → CanExpandBelow a number_of_names m ts
  unfolding expanded
  can_begin can = record { order = can.order; room = omega (arith, can.room, six_total m); each = can.each; small = can.small }

pub within-expanded :
    (a : Name → Action) (m : Mono) (ts : List CoefficientTerm) (b d : ℕ) → EachWithin b d ts → EachWithin (b + total m) d (expanded a m ts)
unfolding expanded
within-expanded a m ts b d h =
    subst (λ s. EachWithin (b + s) d (expanded_below a number_of_names m ts)) (total_below-is m)
    (within-expanded_below a m b d number_of_names (omega arith) ts h)

-- ---- one term of the left factor after the other

at_least : (n s : ℕ) → 0 < n → s ≤ n * s
at_least zero s some = absurd (omega arith)
at_least (suc n) s some = omega arith

module _ (a : Name → Action) (e : Mono × Polynomial) (es : List (Mono × Polynomial)) (ts : List CoefficientTerm)
    (can : CanMultiply a (e ∷ es) ts) where
  size-parts : size_of (multiplied_by e.1.terms (expanded a e.0 ts)) + size_of (product_terms a es ts) ≤ largest_norm
  size-parts = omega (arith, can.small, sum_by-append size (multiplied_by e.1.terms (expanded a e.0 ts)) (product_terms a es ts))

  size-scaled : norm_of e.1.terms * size_of (expanded a e.0 ts) ≤ largest_norm
  size-scaled = omega (
    arith,
    size-parts,
    size_of-multiplied_by e.1.terms (expanded a e.0 ts),
    scaled-sum (λ (u : Mono × ℤ). nat_abs u.1) (size_of (expanded a e.0 ts)) e.1.terms,
  )

  pub can_expand : CanExpand a e.0 ts
  unfolding norm
  can_expand = record {
    order = can.order;
    room = omega (arith, can.rooms.0.symbols);
    each = within-weaker can.order can.names can.order largest_degree (omega arith) can.within ts can.each;
    small = omega (arith, size-scaled, at_least (norm_of e.1.terms) (size_of (expanded a e.0 ts)) can.rooms.0.some);
  }

  pub expanded_small : size_of (expanded a e.0 ts) ≤ largest_norm
  expanded_small = can_expand.small

  pub expanded_numbers : HasNumbers (expanded a e.0 ts)
  expanded_numbers = have_numbers (can.order + total e.0) can.names (expanded a e.0 ts) (within-expanded a e.0 ts can.order can.names can.each)

  pub can_scale : {vs : List CoefficientTerm} → IsSorted (expanded a e.0 ts) vs → CanScale e.1.terms vs
  can_scale {vs} made = record {
    names = can.names;
    order = can.order + total e.0;
    rooms = EachTerm-weaker (λ n x low. omega (arith, low, can.rooms.0.degrees)) e.1.terms (degree_greatest e.1);
    falls = e.1.canonical;
    each = made.within (can.order + total e.0) can.names (within-expanded a e.0 ts can.order can.names can.each);
    written = made.sum.written;
    small = omega (arith, size-scaled, mul-le-mul_left (norm_of e.1.terms) made.sum.small);
  }

pub can_multiply_parts :
    {a : Name → Action} {es : List (Mono × Polynomial)} {ts : List CoefficientTerm} (xs ys : List (Mono × Polynomial)) →
    es ≡ xs ++ ys → CanMultiply a es ts → CanMultiply a xs ts × CanMultiply a ys ts
can_multiply_parts {a} {es} {ts} xs ys whole can =
    let rooms = each_parts (HasRoom can.order can.names) xs ys (subst (EachTerm (HasRoom can.order can.names)) whole can.rooms) in
    let both : size_of (product_terms a es ts) ≡ size_of (product_terms a xs ts) + size_of (product_terms a ys ts) =
    ap size_of (product_parts a ts xs ys whole) ∙ sum_by-append size (product_terms a xs ts) (product_terms a ys ts) in (
      record {
        order = can.order;
        names = can.names;
        within = can.within;
        rooms = rooms.0;
        each = can.each;
        written = can.written;
        small = omega (arith, can.small, both);
      },
      record {
        order = can.order;
        names = can.names;
        within = can.within;
        rooms = rooms.1;
        each = can.each;
        written = can.written;
        small = omega (arith, can.small, both);
      },
    )

-- ---- what the loop reads

pub capped_value : (v : ℕ) (r : Option ℕ) → IsCapped v r → v ≤ largest_norm → unwrap_or r 0 ≡ v
capped_value v None over within = absurd (omega arith)
capped_value v (Some x) is within = is.0
