-- Lists in written form with the sum of another list: of one that is in this form, and of two parts that are merged.
-- Main lemmas `front_walked`, `sum_of_itself` and `sum_of_both`. Cited by the sort.
use Rattle.ct_ore.proofs.Base.{◌≡◌, refl, ℕ, ◌+◌, ◌-◌, ◌<◌, ◌≤◌, pos, negsuc, zero, suc, ℤ, nat_abs, List, [], ◌∷◌, ◌++◌, length, take, get_or, sym}
use Rattle.ct_ore.proofs.Base.{◌∙◌, ap, ap₂, subst, arith, length-append, append_assoc, T, cond, true, false, Less, sum_by-append, EachTerm}
use Rattle.ct_ore.proofs.Base.{IsCanonical, is_less, merged, IsCanonical-merged, ◌⊕◌, EachTerm-⊕, total, int_group, int_is_zero, sum_of_operators}
use Rattle.ct_ore.proofs.Base.{behind, largest_norm}
use Rattle.std.proofs.Math.Seq.{take-append_seam, take-length}
use Rattle.ct_ore.specs.declared.coefficient_term.CoefficientTerm.{CoefficientTerm}
use Rattle.ct_ore.specs.CoefficientTerms.{by_parts, pair_cmp, key, keyed, size_of, sum_of_parts, IsWritten}
use Rattle.ct_ore.specs.PairMeasures.{HasNumbers}
use Rattle.ct_ore.specs.Lists.{IsFront, IsSum, IsSorted, IsMerged, CanMerge}
use Rattle.ct_ore.specs.Bounds.{EachWithin}
use Rattle.ct_ore.proofs.CoefficientSums.{keyed-append, sum_of_parts-append, sum_of_parts-merged}

-- ---- numbers that are not zero

pub told_some : (z : ℤ) → 0 < nat_abs z → T (cond (int_is_zero z) false true)
told_some (pos zero) some = absurd (omega arith)
told_some (pos (suc n)) some = tt
told_some (negsuc n) some = tt

pub some_number : (z : ℤ) → T (cond (int_is_zero z) false true) → 0 < nat_abs z
some_number (pos zero) h = absurd h
some_number (pos (suc n)) h = omega arith
some_number (negsuc n) h = omega arith

pub numbers-append : (xs ys : List CoefficientTerm) → HasNumbers (xs ++ ys) → HasNumbers xs × HasNumbers ys
numbers-append [] ys h = (tt, h)
numbers-append (x ∷ xs) ys h = let parts = numbers-append xs ys h.1 in ((h.0, parts.0), parts.1)

-- ---- the front of a list that is in written form

-- `last` ends a front in written form, and `rest` is behind it
pub record IsWalking (ts : List CoefficientTerm) (last : CoefficientTerm) (rest : List CoefficientTerm) : Type 0 where
  pub done : List CoefficientTerm
  pub whole : ts ≡ done ++ last ∷ rest
  pub written : IsWritten (done ++ last ∷ [])
  pub numbers : HasNumbers rest

further :
    (done : List CoefficientTerm) (last t : CoefficientTerm) → pair_cmp (key t) (key last) ≡ Less → 0 < nat_abs t.number →
    IsWritten (done ++ last ∷ []) → IsWritten (done ++ last ∷ t ∷ [])
further done last t less some falls =
    subst (IsCanonical by_parts int_group) (sym (keyed-append done (last ∷ t ∷ [])))
    (behind by_parts int_group (keyed done) (key last, last.number) [] (keyed (t ∷ []))
    (subst (IsCanonical by_parts int_group) (keyed-append done (last ∷ [])) falls)
    (subst (λ r. T (is_less r)) (sym less) tt, tt) (told_some t.number some, tt, tt))

pub walking_step :
    {ts rest later : List CoefficientTerm} {last t : CoefficientTerm} → rest ≡ t ∷ later → pair_cmp (key t) (key last) ≡ Less →
    IsWalking ts last rest → IsWalking ts t later
walking_step {ts} {rest} {later} {last} {t} more less w =
    let h : HasNumbers (t ∷ later) = subst HasNumbers more w.numbers in
    record {
      done = w.done ++ last ∷ [];
      whole = w.whole ∙ ap (λ us. w.done ++ last ∷ us) more ∙ sym (append_assoc w.done (last ∷ []) (t ∷ later));
      written = subst IsWritten (sym (append_assoc w.done (last ∷ []) (t ∷ []))) (further w.done last t less h.0 w.written);
      numbers = h.1;
    }

pub front_walked :
    {ts rest : List CoefficientTerm} {last : CoefficientTerm} (n : ℕ) → n ≡ length ts - length rest → IsWalking ts last rest →
    IsFront ts n
front_walked {ts} {rest} {last} n count w =
    let whole : ts ≡ (w.done ++ last ∷ []) ++ rest = w.whole ∙ sym (append_assoc w.done (last ∷ []) rest) in
    let long : length ts ≡ length w.done + 1 + length rest =
    omega (arith, ap length whole, length-append (w.done ++ last ∷ []) rest, length-append w.done (last ∷ [])) in
    let seam : n ≡ length (w.done ++ last ∷ []) = omega (arith, count, long, length-append w.done (last ∷ [])) in
    record {
      written = subst IsWritten (sym (ap₂ take seam whole ∙ take-append_seam (w.done ++ last ∷ []) rest)) w.written;
      within = omega arith;
      some = omega (arith, count, long);
    }

pub front_whole : {ts : List CoefficientTerm} {n : ℕ} → IsFront ts n → n ≡ length ts → IsWritten ts
front_whole {ts} front all = subst IsWritten (ap (λ k. take k ts) all ∙ take-length ts) front.written

-- ---- a list that is in written form, or has the sum of one

pub sum_of_itself : {ts us : List CoefficientTerm} → IsWritten ts → us ≡ ts → IsSum ts us
sum_of_itself {ts} {us} written same =
    subst (IsSum ts) (sym same) (record { written = written; value = refl; few = omega arith; small = omega arith })

pub sum_of_same :
    {ts us vs : List CoefficientTerm} → sum_of_parts ts ≡ sum_of_parts us → length ts ≤ length us → size_of ts ≤ size_of us →
    IsSum ts vs → IsSum us vs
sum_of_same value few small sum = record {
  written = sum.written;
  value = sum.value ∙ value;
  few = omega (arith, few, sum.few);
  small = omega (arith, small, sum.small);
}

-- ---- what bounds a list bounds its sum

to_keys :
    (b d : ℕ) (ts : List CoefficientTerm) → EachWithin b d ts → EachTerm (λ k x. (total k.0 ≤ b) × (total k.1 ≤ d)) (keyed ts)
to_keys b d [] h = tt
to_keys b d (t ∷ ts) h = ((h.0.symbols, h.0.names), to_keys b d ts h.1)

from_keys :
    (b d : ℕ) (ts : List CoefficientTerm) → IsWritten ts → EachTerm (λ k x. (total k.0 ≤ b) × (total k.1 ≤ d)) (keyed ts) → EachWithin b d ts
from_keys b d [] written h = tt
from_keys b d (t ∷ ts) written h =
    (record { symbols = h.0.0; names = h.0.1; some = some_number t.number written.0 }, from_keys b d ts written.2 h.1)

merged_within :
    (b d : ℕ) (us vs ws : List CoefficientTerm) → keyed ws ≡ merged by_parts int_group (keyed us) (keyed vs) → IsWritten us →
    IsWritten vs → EachWithin b d us → EachWithin b d vs → EachWithin b d ws
unfolding ◌⊕◌
merged_within b d us vs ws terms uf vf u v =
    from_keys b d ws (subst (IsCanonical by_parts int_group) (sym terms) (IsCanonical-merged by_parts int_group (keyed us) (keyed vs) vf))
    (subst (EachTerm (λ k x. (total k.0 ≤ b) × (total k.1 ≤ d))) (sym terms)
    (EachTerm-⊕ by_parts int_group (λ k. (total k.0 ≤ b) × (total k.1 ≤ d)) (record { terms = keyed us; canonical = uf })
    (record { terms = keyed vs; canonical = vf })
    (to_keys b d us u) (to_keys b d vs v)))

pub within_parts :
    (b d : ℕ) (xs ys : List CoefficientTerm) → EachWithin b d (xs ++ ys) → EachWithin b d xs × EachWithin b d ys
within_parts b d [] ys h = (tt, h)
within_parts b d (x ∷ xs) ys h = let parts = within_parts b d xs ys h.1 in ((h.0, parts.0), parts.1)

pub sorted_itself : {ts us : List CoefficientTerm} → IsWritten ts → us ≡ ts → IsSorted ts us
sorted_itself written same = record { sum = sum_of_itself written same; within = λ b d h. subst (EachWithin b d) (sym same) h }

-- ---- two parts

pub halves_small :
    (ts front back us vs : List CoefficientTerm) → ts ≡ front ++ back → size_of ts ≤ largest_norm → IsSum front us →
    IsSum back vs → CanMerge us vs
halves_small ts front back us vs whole small f b = record {
  first = f.written;
  second = b.written;
  small = omega (arith, small, f.small, b.small, ap size_of whole, sum_by-append (λ (u : CoefficientTerm). nat_abs u.number) front back);
}

pub sum_of_both :
    (ts front back us vs ws : List CoefficientTerm) → ts ≡ front ++ back → IsSum front us → IsSum back vs →
    IsMerged us vs ws → IsSum ts ws
sum_of_both ts front back us vs ws whole f b m = record {
  written = subst (IsCanonical by_parts int_group) (sym m.terms) (IsCanonical-merged by_parts int_group (keyed us) (keyed vs) b.written);
  value = sum_of_parts-merged us vs ws m.terms ∙ ap₂ sum_of_operators f.value b.value ∙ sym (ap sum_of_parts whole ∙ sum_of_parts-append front back);
  few = omega (arith, m.few, f.few, b.few, ap length whole, length-append front back);
  small = omega (arith, m.small, f.small, b.small, ap size_of whole, sum_by-append (λ (u : CoefficientTerm). nat_abs u.number) front back);
}

pub sorted_of_both :
    {ts front back us vs ws : List CoefficientTerm} → ts ≡ front ++ back → IsSorted front us → IsSorted back vs →
    IsMerged us vs ws → IsSorted ts ws
sorted_of_both {ts} {front} {back} {us} {vs} {ws} whole f g m = record {
  sum = sum_of_both ts front back us vs ws whole f.sum g.sum m;
  within = λ b d h.
      let parts = within_parts b d front back (subst (EachWithin b d) whole h) in
      merged_within b d us vs ws m.terms f.sum.written g.sum.written (f.within b d parts.0) (g.within b d parts.1);
}

-- ---- lists of none and of one

pub sum_of_none : {ts us : List CoefficientTerm} → ts ≡ [] → us ≡ [] → IsSum ts us
sum_of_none none empty = sum_of_itself (subst IsWritten (sym none) tt) (empty ∙ sym none)

pub no_length : {X : Type 0} (xs : List X) → length xs ≡ 0 → xs ≡ []
no_length [] e = refl
no_length (x ∷ xs) e = absurd (omega arith)

pub only_one : {X : Type 0} (xs : List X) (x : X) → length xs ≡ 1 → x ≡ get_or xs 0 x → xs ≡ x ∷ []
only_one [] x one first = absurd (omega arith)
only_one (y ∷ []) x one first = ap (λ z. z ∷ []) (sym first)
only_one (y ∷ z ∷ xs) x one first = absurd (omega arith)
