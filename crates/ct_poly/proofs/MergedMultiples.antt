-- The merge of a list with the multiples of another. Main lemmas `product_pushed`, `product_gone` and `accumulation_ended`,
-- which `sum_with_multiple` cites, and `counted_split`, which `split_above` does.
-- The products of a term and a falling list fall, so this is a merge of two falling lists; the second is made on the way.
use Rattle.ct_poly.proofs.Base.{◌≡◌, refl, ℕ, suc, ◌+◌, ◌*◌, ◌≤◌, ℤ, pos, ◌+ℤ◌, ◌*ℤ◌, nat_abs, true, List, [], ◌∷◌, ◌++◌, length, Ordering, Less}
use Rattle.ct_poly.proofs.Base.{Equal, Greater, is_eq, is_gt, ⊎_elim, sym, ◌∙◌, ap, subst, subst₂, arith, append_assoc, append-nil, length-append}
use Rattle.ct_poly.proofs.Base.{sum_by-cons, sum_by_push, ints, unsigned_abs-mul, not_zero, less_is, Mono, monomials, mono_cmp, mono_turned}
use Rattle.ct_poly.proofs.Base.{mono_turned_back, mono_tied, ◌·◌, plus, times, AllBelow, IsCanonical, by_order, keep, value_at, pick, int_group}
use Rattle.ct_poly.proofs.Base.{largest_norm}
use Rattle.ct_poly.specs.Accumulation.{EachAbove, count_above, BeginsBelow, IsBlock, Joins, Precedes, Meets}
use Rattle.ct_poly.specs.declared.term.Term.{Term}
use Rattle.ct_poly.specs.Terms.{entry, entries, size_of, IsFalling, IsListOf, CanMultiply, poly_of_terms}
use Rattle.ct_poly.proofs.Merging.{sum_is}
use Rattle.ct_poly.proofs.Products.{product, multiple_is}
use Rattle.ct_poly.proofs.TermLists.{no_length, entries-append, abs_sum}
use Rattle.ct_poly.proofs.Termwise.{made_of}
use Rattle.ct_algebra.proofs.Merging as merging
use Rattle.ct_poly.proofs.Merging as terms

abbrev size : Term → ℕ
size t = nat_abs t.coef

abbrev IsMerging : List Term → List Term → List Term → List Term → List Term → Type 0
IsMerging = terms.IsMerging monomials int_group entry

abbrev pub multiples : Term → List Term → List Term
multiples t us = made_of (product t) us

-- a term times another
abbrev pub times_term : Term → Term → Term
times_term t u = record { mono = t.mono · u.mono; coef = t.coef *ℤ u.coef }

-- ---- counting

pub count_within : (m : Mono) (ts : List Term) → count_above m (entries ts) ≤ length ts
count_within m [] = omega arith
count_within m (t ∷ ts) = by (mono_cmp t.mono m) (count_within m ts)
  where
    by : (r : Ordering) → count_above m (entries ts) ≤ length ts → by_order r 0 0 (suc (count_above m (entries ts))) ≤ length (t ∷ ts)
    by Less rest = omega arith
    by Equal rest = omega arith
    by Greater rest = omega arith

pub record IsSplit (m : Mono) (front back : List Term) : Type 0 where
  pub above : EachAbove m (entries front)
  pub below : count_above m (entries back) ≡ 0

pub counted_split : (m : Mono) (front back : List Term) → length front ≡ count_above m (entries (front ++ back)) → IsSplit m front back
counted_split m [] back count = record { above = tt; below = sym count }
counted_split m (t ∷ front) back count = by (mono_cmp t.mono m) refl count (counted_split m front back)
  where
    by :
        (r : Ordering) → mono_cmp t.mono m ≡ r → length (t ∷ front) ≡ by_order r 0 0 (suc (count_above m (entries (front ++ back)))) →
        (length front ≡ count_above m (entries (front ++ back)) → IsSplit m front back) → IsSplit m (t ∷ front) back
    by Less order count rest = absurd (omega (arith, count))
    by Equal order count rest = absurd (omega (arith, count))
    by Greater order count rest =
        let later = rest (omega (arith, count)) in
        record { above = (mono_turned_back t.mono m order, later.above); below = later.below }

-- ---- blocks

below_at :
    (m : Mono) (front : List Term) (a : Term) (more : List Term) → AllBelow monomials int_group m (entries (front ++ a ∷ more)) →
    mono_cmp a.mono m ≡ Less
below_at m [] a more below = less_is monomials int_group _ below.0
below_at m (t ∷ front) a more below = below_at m front a more below.1

-- a block before a term above m is above it
block_above :
    (m : Mono) (front : List Term) (a : Term) (more : List Term) → IsFalling (front ++ a ∷ more) → mono_cmp m a.mono ≡ Less →
    count_above m (entries (front ++ a ∷ more)) ≡ length front + count_above m (entries (a ∷ more))
block_above m [] a more falling less = omega arith
block_above m (t ∷ front) a more falling less =
    let higher : mono_cmp m t.mono ≡ Less = monomials.trans m a.mono t.mono less (below_at t.mono front a more falling.1) in
    let one : count_above m (entries (t ∷ front ++ a ∷ more)) ≡ suc (count_above m (entries (front ++ a ∷ more))) =
    ap (λ r. by_order r 0 0 (suc (count_above m (entries (front ++ a ∷ more))))) (mono_turned m t.mono higher) in
    omega (arith, one, block_above m front a more falling.2 less)

-- the number so far and that of the rest are the whole
pub record IsCounting (m : Mono) (p : List Term) (number : ℕ) (rest : List Term) : Type 0 where
  pub falling : IsFalling rest
  pub count : number + count_above m (entries rest) ≡ count_above m (entries p)
  pub lengths : number + length rest ≡ length p

pub block_counted :
    {m : Mono} {p : List Term} {number : ℕ} {rest : List Term} (more : List Term) → IsBlock m rest more → IsCounting m p number rest →
    IsCounting m p (number + 16) more
block_counted {m} {p} {number} {rest} [] b c = absurd b.above
block_counted {m} {p} {number} {rest} (a ∷ more) b c =
    let d : IsCounting m p number (b.block ++ a ∷ more) = subst (IsCounting m p number) b.whole c in
    record {
      falling = merging.back_canonical monomials int_group (entries b.block) (entries (a ∷ more))
          (subst (IsCanonical monomials int_group) (entries-append b.block (a ∷ more)) d.falling);
      count = omega (arith, d.count, b.long, block_above m b.block a more d.falling b.above);
      lengths = omega (arith, d.lengths, b.long, length-append b.block (a ∷ more));
    }

-- ---- comparisons

pub greater_is : (o : Ordering) → is_gt o ≡ true → o ≡ Greater
greater_is Less above = cc
greater_is Equal above = cc
greater_is Greater above = refl

pub tied_is : (o : Ordering) → is_eq o ≡ true → o ≡ Equal
tied_is Less tied = cc
tied_is Equal tied = refl
tied_is Greater tied = cc

-- ---- steps of the merge

pub many_taken :
    {ps qs done q q' : List Term} {b : Term} (front back : List Term) → q ≡ b ∷ q' → EachAbove b.mono (entries front) →
    IsMerging ps qs done (front ++ back) q → IsMerging ps qs (done ++ front) back q
many_taken {ps} {qs} {done} {q} [] back q_is each m = subst (λ d. IsMerging ps qs d back q) (sym (append-nil done)) m
many_taken {ps} {qs} {done} {q} (a ∷ front) back q_is each m =
    subst (λ d. IsMerging ps qs d back q) (append_assoc done (a ∷ []) front)
    (many_taken front back q_is each.1 (terms.first_taken monomials int_group entry refl q_is each.0 refl m))

-- what is left of the second list alone goes behind
merging_alone :
    (ps qs done : List (Mono × ℤ)) (f : Mono × ℤ) (q : List (Mono × ℤ)) →
    merging.IsMerging monomials int_group ps qs done [] (f ∷ q) → merging.IsMerging monomials int_group ps qs (done ++ f ∷ []) [] q
merging_alone ps qs done f q h =
    let whole : IsCanonical monomials int_group ((done ++ f ∷ []) ++ q) =
    subst (IsCanonical monomials int_group) (sym (append_assoc done (f ∷ []) q)) h.right in
    record {
      left = subst (IsCanonical monomials int_group) (sym (append-nil (done ++ f ∷ [])))
          (merging.front_canonical monomials int_group (done ++ f ∷ []) q whole);
      right = whole;
      values = λ k. ap (λ z. z +ℤ (pos 0 +ℤ value_at monomials int_group q k))
          (merging.sum_over-append int_group (pick monomials int_group k) done (f ∷ []))
          ∙ regroup (value_at monomials int_group done k) (pick monomials int_group k f.0 f.1) (value_at monomials int_group q k) ∙ h.values k;
    }
  where
    regroup : (a b c : ℤ) → (a +ℤ (b +ℤ pos 0)) +ℤ (pos 0 +ℤ c) ≡ a +ℤ (pos 0 +ℤ (b +ℤ c))
    regroup a b c = omega (arith, ints)

alone_taken :
    {ps qs done q' : List Term} {b : Term} → IsMerging ps qs done [] (b ∷ q') → IsMerging ps qs (done ++ b ∷ []) [] q'
alone_taken {ps} {qs} {done} {q'} {b} m = record {
  merging = subst (λ d. merging.IsMerging monomials int_group (entries ps) (entries qs) d [] (entries q')) (sym (entries-append done (b ∷ [])))
      (merging_alone (entries ps) (entries qs) (entries done) (b.mono, b.coef) (entries q') m.merging);
  sizes = λ size lower.
      omega (arith, m.sizes size lower, sum_by_push (λ (t : Term). size t.coef) done b, sum_by-cons (λ (t : Term). size t.coef) b q');
}

second_first :
    {ps qs done q' : List Term} {b : Term} (p : List Term) → BeginsBelow b.mono p → IsMerging ps qs done p (b ∷ q') →
    IsMerging ps qs (done ++ b ∷ []) p q'
second_first [] below m = alone_taken m
second_first (a ∷ p) below m = terms.second_taken monomials int_group entry refl refl below refl m

-- ---- the loop

pub record IsAccumulating (ps : List Term) (t : Term) (qs done p q : List Term) : Type 0 where
  pub merging : IsMerging ps (multiples t qs) done p (multiples t q)
  pub can : CanMultiply (t ∷ []) q

can_rest : {t b : Term} {q : List Term} → CanMultiply (t ∷ []) (b ∷ q) → CanMultiply (t ∷ []) q
can_rest {t} {b} {q} can = record {
  first = can.first;
  second = can.second.2;
  degrees = omega (arith, can.degrees);
  sizes = omega (arith, can.sizes, ap (λ n. size_of (t ∷ []) * n) (sum_by-cons size b q));
}

pub size-multiples : (t : Term) (qs : List Term) → size_of (multiples t qs) ≡ nat_abs t.coef * size_of qs
size-multiples t [] = omega arith
size-multiples t (u ∷ qs) =
    omega (
      arith,
      size-multiples t qs,
      sum_by-cons size u qs,
      sum_by-cons size (times_term t u) (multiples t qs),
      unsigned_abs-mul t.coef u.coef,
      ap (λ n. nat_abs t.coef * n) (sum_by-cons size u qs),
    )

pub accumulation_start :
    {ps : List Term} {t : Term} {qs done : List Term} → IsFalling ps → CanMultiply (t ∷ []) qs → done ≡ [] → IsAccumulating ps t qs done ps qs
accumulation_start {ps} {t} {qs} falling can empty =
    let products = multiple_is t qs (multiples t qs) can refl in
    record { merging = terms.merging_start monomials int_group entry falling products.falling empty; can = can }

-- the second list at hand
module _ {ps : List Term} {t : Term} {qs done p q q' : List Term} {b : Term} (q_is : q ≡ b ∷ q') (l : IsAccumulating ps t qs done p q) where
  here : IsAccumulating ps t qs done p (b ∷ q')
  here = subst (IsAccumulating ps t qs done p) q_is l

  module _ {front back : List Term} (whole : p ≡ front ++ back) (split : IsSplit (t.mono · b.mono) front back) where
    behind : IsMerging ps (multiples t qs) (done ++ front) back (times_term t b ∷ multiples t q')
    behind = many_taken front back refl split.above
        (subst (λ w. IsMerging ps (multiples t qs) done w (times_term t b ∷ multiples t q')) whole here.merging)

    pub meeting_small : size_of ps + nat_abs t.coef * size_of qs ≤ largest_norm → size_of back + nat_abs (t.coef *ℤ b.coef) ≤ largest_norm
    meeting_small small =
        omega (arith, small, behind.sizes nat_abs abs_sum, size-multiples t qs, sum_by-cons size (times_term t b) (multiples t q'))

    module _ {c : ℤ} {rest : List Term} (meets : Meets back (times_term t b) c rest) where
      pub product_pushed :
          (more : List Term) → (c ≡ pos 0 → ⊥) → more ≡ (done ++ front) ++ record { mono = t.mono · b.mono; coef = c } ∷ [] →
          IsAccumulating ps t qs more rest q'
      product_pushed more some more_is = record { merging = ⊎_elim joined alone meets; can = can_rest here.can }
        where
          joined : Joins back (times_term t b) c rest → IsMerging ps (multiples t qs) more rest (multiples t q')
          joined j =
              let sum : Term = record { mono = t.mono · b.mono; coef = c } in
              let kept = terms.sum_kept monomials int_group entry (done ++ front) sum more_is j.sum (λ zero. some (j.sum ∙ zero)) in
              terms.both_met monomials int_group entry j.full refl j.tied
              (subst (λ m. entries more ≡ entries (done ++ front) ++ keep monomials int_group m (j.head.coef +ℤ t.coef *ℤ b.coef) [])
              (sym (mono_tied j.head.mono (t.mono · b.mono) j.tied)) kept) behind

          alone : Precedes back (times_term t b) c rest → IsMerging ps (multiples t qs) more rest (multiples t q')
          alone a =
              subst₂ (λ d w. IsMerging ps (multiples t qs) d w (multiples t q'))
              (ap (λ x. (done ++ front) ++ record { mono = t.mono · b.mono; coef = x } ∷ []) (sym a.coef) ∙ sym more_is) (sym a.same)
              (second_first back a.below behind)

      pub product_gone : (more : List Term) → c ≡ pos 0 → more ≡ done ++ front → IsAccumulating ps t qs more rest q'
      product_gone more none more_is = record { merging = ⊎_elim joined alone meets; can = can_rest here.can }
        where
          joined : Joins back (times_term t b) c rest → IsMerging ps (multiples t qs) more rest (multiples t q')
          joined j =
              subst (λ d. IsMerging ps (multiples t qs) d rest (multiples t q')) (sym more_is)
              (terms.both_met monomials int_group entry j.full refl j.tied
              (terms.sum_gone monomials int_group entry (done ++ front) j.head.mono (sym j.sum ∙ none)) behind)

          alone : Precedes back (times_term t b) c rest → IsMerging ps (multiples t qs) more rest (multiples t q')
          alone a = absurd (not_zero monomials int_group (t.coef *ℤ b.coef)
              (merging.back_canonical monomials int_group (entries (done ++ front))
              (entries (times_term t b ∷ multiples t q')) behind.merging.right).0 (sym a.coef ∙ none))

pub falling_left :
    {ps : List Term} {t : Term} {qs done p q : List Term} → IsAccumulating ps t qs done p q → IsFalling p
falling_left {ps} {t} {qs} {done} {p} l = merging.back_canonical monomials int_group (entries done) (entries p) l.merging.merging.left

pub accumulation_ended :
    {ps : List Term} {t : Term} {qs done all p q : List Term} → IsFalling ps → CanMultiply (t ∷ []) qs → length q ≡ 0 → all ≡ done ++ p →
    IsAccumulating ps t qs done p q →
    IsListOf (plus (poly_of_terms ps) (times (poly_of_terms (t ∷ [])) (poly_of_terms qs))) (length ps + length qs)
    (size_of ps + nat_abs t.coef * size_of qs) all
accumulation_ended {ps} {t} {qs} {done} {all} {p} {q} falling can empty all_is l =
    let products = multiple_is t qs (multiples t qs) can refl in
    let end = sum_is falling products.falling
    (terms.second_ended monomials int_group entry products.falling (ap (multiples t) (no_length q empty)) all_is l.merging) in
    record {
      falling = end.falling;
      value = end.value ∙ ap (plus (poly_of_terms ps)) products.value;
      few = omega (arith, end.few, products.few);
      small = omega (arith, end.small, products.small);
    }
