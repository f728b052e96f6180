-- Results are within the measures of their operands: main lemmas `sums_within`, `differences_within`, `products_within`,
-- `shifts_within` and `derivatives_within`, which the laws cite.
-- Inserting a term adds at most one term and its absolute value; products and shifts are sums over the terms.
use Rattle.ct_poly.proofs.Base.{◌≡◌, refl, ℕ, zero, suc, ◌+◌, ◌*◌, ◌^◌, ◌≤◌, ◌<◌, ℤ, pos, ◌+ℤ◌, nat_abs, List, [], ◌∷◌, length, sum_by, sym, ◌∙◌, ap}
use Rattle.ct_poly.proofs.Base.{ap₂, subst, arith, Bool, true, false, cond, T, Ordering, Less, Equal, Greater, mul-le-mul_left, mul-le-mul_right}
use Rattle.ct_poly.proofs.Base.{pow-succ', pow-zero, sum_by-cons, derived, Mono, monomials, mono_cmp, exp, total, total-·, unit, Name, name_with}
use Rattle.ct_poly.proofs.Base.{place, place_small, same_place, symbol, Polynomial, polys, poly_of, plus, plus_is, times, times_is, count, norm}
use Rattle.ct_poly.proofs.Base.{norm_of, degree, degree_of, degree_greatest, ◌⊕◌, none, single, EachTerm-⊕, zero_mul, with_exponent, term, term_is}
use Rattle.ct_poly.proofs.Base.{name, name_is, number, number_is, one_is, EachTerm, EachTerm-weaker, IsCanonical, by_order, insert, keep, merged}
use Rattle.ct_poly.proofs.Base.{int_group, int_is_zero, row_of, times-append, sum_of-none}
use Rattle.ct_poly.proofs.BinomialPowers.{count_power}
use Rattle.ct_poly.proofs.ShiftValues.{shifted-sum, shifted-zero, shifted-term}
use Rattle.ct_poly.specs.Powers.{binomial, power_of}
use Rattle.ct_poly.specs.declared.term.Term.{Term}
use Rattle.ct_poly.specs.Measures.{minus, shifted, shift_count, shift_norm, derivative_norm}
use Rattle.ct_poly.specs.Terms.{entries, shift_size, shift_length, IsFalling, poly_of_terms}
use Rattle.ct_poly.proofs.Derivatives.{derivative, derivative_is}
use Rattle.ct_poly.proofs.Negatives.{negative, negative_is}
use Rattle.ct_poly.proofs.Termwise.{made_of}
use Rattle.ct_poly.proofs.TermLists.{norm_of-terms, count_of-terms, sum_by-entries, rebuilt, poly_of-single, terms-multiple, abs_sum, norm_of-row}
use Rattle.ct_poly.proofs.TermLists.{length-row, place-name_with, no_terms, poly_of-cons}

abbrev size : Mono × ℤ → ℕ
size e = nat_abs e.1

-- ---- sums

abbrev inserted : Mono → ℤ → List (Mono × ℤ) → List (Mono × ℤ)
inserted m c es = insert monomials int_group m c es

keep_within : (m : Mono) (c : ℤ) (es : List (Mono × ℤ)) →
    (length (keep monomials int_group m c es) ≤ suc (length es)) × (norm_of (keep monomials int_group m c es) ≤ nat_abs c + norm_of es)
keep_within m c es = by (int_is_zero c)
  where
    by : (b : Bool) → (length (cond b es ((m, c) ∷ es)) ≤ suc (length es)) × (norm_of (cond b es ((m, c) ∷ es)) ≤ nat_abs c + norm_of es)
    by true = (omega arith, omega arith)
    by false = (omega arith, omega (arith, sum_by-cons size (m, c) es))

insert_within : (m : Mono) (c : ℤ) (es : List (Mono × ℤ)) →
    (length (inserted m c es) ≤ suc (length es)) × (norm_of (inserted m c es) ≤ nat_abs c + norm_of es)
insert_within m c [] = keep_within m c []
insert_within m c (e ∷ es) = by (mono_cmp m e.0) (insert_within m c es)
  where
    by : (r : Ordering) → (length (inserted m c es) ≤ suc (length es)) × (norm_of (inserted m c es) ≤ nat_abs c + norm_of es)
        → (length (by_order r (e ∷ inserted m c es) (keep monomials int_group m (c +ℤ e.1) es) (keep monomials int_group m c (e ∷ es))) ≤ suc
        (suc (length es)))
        × (norm_of (by_order r (e ∷ inserted m c es) (keep monomials int_group m (c +ℤ e.1) es) (keep monomials int_group m c (e ∷ es))) ≤ nat_abs c +
        norm_of (e ∷ es))
    by Less later = (omega (arith, later.0), omega (arith, later.1, sum_by-cons size e es, sum_by-cons size e (inserted m c es)))
    by Equal later = let kept = keep_within m (c +ℤ e.1) es in (omega (arith, kept.0), omega (arith, kept.1, abs_sum c e.1, sum_by-cons size e es))
    by Greater later = keep_within m c (e ∷ es)

merged_within : (es fs : List (Mono × ℤ)) →
    (length (merged monomials int_group es fs) ≤ length es + length fs) × (norm_of (merged monomials int_group es fs) ≤ norm_of es + norm_of fs)
merged_within [] fs = (omega arith, omega arith)
merged_within (e ∷ es) fs =
    let later = merged_within es fs in
    let one = insert_within e.0 e.1 (merged monomials int_group es fs) in
    (omega (arith, one.0, later.0), omega (arith, one.1, later.1, sum_by-cons size e es))

pub sums_within : (p q : Polynomial) → (count (plus p q) ≤ count p + count q) × (norm (plus p q) ≤ norm p + norm q)
unfolding count norm plus ◌⊕◌
sums_within p q = merged_within p.terms q.terms

-- ---- products

low_row : (e : Mono × ℤ) (d : ℕ) (fs : List (Mono × ℤ)) → EachTerm (λ m c. total m ≤ d) fs → EachTerm (λ m c. total m ≤ total e.0 + d) (row_of e fs)
low_row e d [] each = tt
low_row e d (f ∷ fs) each = (omega (arith, total-· e.0 f.0, each.0), low_row e d fs each.1)

-- what is said of a product and of a shift
record IsWithin (many large high : ℕ) (p : Polynomial) : Type 0 where
  few : count p ≤ many
  small : norm p ≤ large
  low : EachTerm (λ m c. total m ≤ high) p.terms

within_sum :
    {p q : Polynomial} (n s n' s' d : ℕ) → IsWithin n s d p → IsWithin n' s' d q → IsWithin (n + n') (s + s') d (plus p q)
unfolding plus
within_sum {p} {q} n s n' s' d first second = let sum = sums_within p q in record {
  few = omega (arith, first.few, second.few, sum.0);
  small = omega (arith, first.small, second.small, sum.1);
  low = EachTerm-⊕ monomials int_group (λ m. total m ≤ d) p q first.low second.low;
}

within_wider : {p : Polynomial} (n s d n' s' d' : ℕ) → n ≤ n' → s ≤ s' → d ≤ d' → IsWithin n s d p → IsWithin n' s' d' p
within_wider n s d n' s' d' more larger higher w = record {
  few = omega (arith, w.few, more);
  small = omega (arith, w.small, larger);
  low = EachTerm-weaker (λ m c at. omega (arith, at, higher)) _ w.low;
}

within_multiple :
    (m : Mono) (c : ℤ) (q : Polynomial) → T (cond (int_is_zero c) false true) →
    IsWithin (count q) (nat_abs c * norm q) (total m + degree q) (times (term m c) q)
unfolding count norm
within_multiple m c q some = let row = terms-multiple m c q some in record {
  few = omega (arith, ap length row, length-row (m, c) q.terms);
  small = omega (arith, ap norm_of row, norm_of-row (m, c) q.terms);
  low = subst (EachTerm (λ k d. total k ≤ total m + degree q)) (sym row) (low_row (m, c) (degree q) q.terms (degree_greatest q));
}

within_zero : (d : ℕ) → IsWithin 0 0 d polys.zero
unfolding count norm none
within_zero d = record { few = omega arith; small = omega arith; low = tt }

poly_of-empty : poly_of [] ≡ polys.zero
unfolding poly_of
poly_of-empty = sum_of-none monomials int_group

within_products :
    (d : ℕ) (es : List (Mono × ℤ)) (q : Polynomial) → IsCanonical monomials int_group es → EachTerm (λ m c. total m ≤ d) es →
    IsWithin (length es * count q) (norm_of es * norm q) (d + degree q) (times (poly_of es) q)
within_products d [] q falling low =
    within_wider 0 0 (d + degree q) _ _ _ (omega arith) (omega arith) (omega arith)
    (subst (IsWithin 0 0 (d + degree q)) (sym (times_is _ _ ∙ ap (λ p. polys.◌*◌ p q) poly_of-empty ∙ zero_mul polys q))
    (within_zero (d + degree q)))
within_products d (e ∷ es) q falling low =
    subst (IsWithin (suc (length es) * count q) (norm_of (e ∷ es) * norm q) (d + degree q))
    (sym (times-append (e ∷ []) es q ∙ ap (λ p. plus (times p q) (times (poly_of es) q)) (poly_of-single e.0 e.1)))
    (within_wider (count q + length es * count q) (nat_abs e.1 * norm q + norm_of es * norm q) (d + degree q) _ _ _ (omega arith)
    (omega (arith, ap (λ n. n * norm q) (sum_by-cons size e es))) (omega arith)
    (within_sum (count q) (nat_abs e.1 * norm q) (length es * count q) (norm_of es * norm q) (d + degree q)
    (within_wider (count q) (nat_abs e.1 * norm q) (total e.0 + degree q) _ _ _ (omega arith) (omega arith) (omega (arith, low.0))
    (within_multiple e.0 e.1 q falling.0)) (within_products d es q falling.2 low.1)))

degree_within : (d : ℕ) (es : List (Mono × ℤ)) → EachTerm (λ m c. total m ≤ d) es → degree_of es ≤ d
degree_within d [] each = omega arith
degree_within d (e ∷ es) each = each.0

pub products_within :
    (p q : Polynomial) →
    (count (times p q) ≤ count p * count q) × (norm (times p q) ≤ norm p * norm q) × (degree (times p q) ≤ degree p + degree q)
unfolding count norm degree
products_within p q =
    let w : IsWithin (length p.terms * count q) (norm_of p.terms * norm q) (degree p + degree q) (times p q) =
    subst (λ r. IsWithin (length p.terms * count q) (norm_of p.terms * norm q) (degree p + degree q) (times r q)) (rebuilt p)
    (within_products (degree p) p.terms q p.canonical (degree_greatest p)) in
    (w.few, w.small, degree_within (degree p + degree q) _ w.low)

-- ---- shifts and derivatives, by the lists of the terms

abbrev term_list : List (Mono × ℤ) → List Term
term_list [] = []
term_list (e ∷ es) = record { mono = e.0; coef = e.1 } ∷ term_list es

entries-term_list : (es : List (Mono × ℤ)) → entries (term_list es) ≡ es
entries-term_list [] = refl
entries-term_list (e ∷ es) = ap (λ fs. (e.0, e.1) ∷ fs) (entries-term_list es)

place-of_place : (i : Name) → name_with (place i) ≡ i
place-of_place i = same_place _ i (place-name_with (place i) (place_small i))

term_list-falling : (p : Polynomial) → IsFalling (term_list p.terms)
term_list-falling p = subst (IsCanonical monomials int_group) (sym (entries-term_list p.terms)) p.canonical

term_list-value : (p : Polynomial) → poly_of_terms (term_list p.terms) ≡ p
unfolding poly_of_terms
term_list-value p = ap poly_of (entries-term_list p.terms) ∙ rebuilt p

pub derivatives_within : (i : Name) (p : Polynomial) → (count (derived i p) ≤ count p) × (norm (derived i p) ≤ derivative_norm i p)
unfolding derivative_norm
derivatives_within i p =
    let ts = term_list p.terms in
    let falling = term_list-falling p in
    let value = term_list-value p in
    let list = derivative_is (place i) (place_small i) ts (made_of (derivative (place i)) ts) falling refl in
    let derives : poly_of_terms (made_of (derivative (place i)) ts) ≡ derived i p = list.value ∙ ap₂ derived (place-of_place i) value in (
      omega (arith, count_of-terms (made_of (derivative (place i)) ts) list.falling derives, list.few, count_of-terms ts falling value),
      omega (
        arith,
        norm_of-terms (made_of (derivative (place i)) ts) list.falling derives,
        list.small,
        sum_by-entries (λ e. nat_abs e.1 * exp e.0 (place i)) ts,
        ap (sum_by (λ e. nat_abs e.1 * exp e.0 (place i))) (entries-term_list p.terms),
      ),
    )

pub negatives_within : (p : Polynomial) → (count (polys.neg p) ≤ count p) × (norm (polys.neg p) ≤ norm p)
negatives_within p =
    let ts = term_list p.terms in
    let falling = term_list-falling p in
    let value = term_list-value p in
    let list = negative_is ts (made_of negative ts) falling refl in
    let negates : poly_of_terms (made_of negative ts) ≡ polys.neg p = list.value ∙ ap polys.neg value in (
      omega (arith, count_of-terms (made_of negative ts) list.falling negates, list.few, count_of-terms ts falling value),
      omega (arith, norm_of-terms (made_of negative ts) list.falling negates, list.small, norm_of-terms ts falling value),
    )

pub differences_within : (p q : Polynomial) → (count (minus p q) ≤ count p + count q) × (norm (minus p q) ≤ norm p + norm q)
unfolding minus
differences_within p q =
    let sum = sums_within p (polys.neg q) in
    let negative = negatives_within q in
    (omega (arith, sum.0, negative.0), omega (arith, sum.1, negative.1))

pub term_within : (m : Mono) (c : ℤ) → (count (term m c) ≤ 1) × (norm (term m c) ≤ nat_abs c)
unfolding count norm single
term_within m c = subst (λ p. (length p.terms ≤ 1) × (norm_of p.terms ≤ nat_abs c)) (sym (term_is m c)) (let one = insert_within m c [] in
    (one.0, omega (arith, one.1)))

power_norm : (i a e : ℕ) → norm (power_of i a e) ≤ (1 + a) ^ e
power_norm i a zero = omega (arith, pow-zero (1 + a), ap norm (one_is ∙ number_is (pos 1)), (term_within unit (pos 1)).1)
power_norm i a (suc e) = step (power_norm i a e)
  where
    step : norm (power_of i a e) ≤ (1 + a) ^ e → norm (power_of i a (suc e)) ≤ (1 + a) ^ suc e
    step before =
        let sum = sums_within (name (name_with i)) (number (pos a)) in
        let first : norm (name (name_with i)) ≤ 1 = omega (arith, ap norm (name_is (name_with i)), (term_within (symbol (name_with i)) (pos 1)).1) in
        let second : norm (number (pos a)) ≤ a = omega (arith, ap norm (number_is (pos a)), (term_within unit (pos a)).1) in
        let small : norm (binomial i a) ≤ 1 + a = omega (arith, sum.1, first, second) in
        let product = products_within (binomial i a) (power_of i a e) in
        omega (arith, product.1, mul-le-mul_right (norm (power_of i a e)) small, mul-le-mul_left (1 + a) before, pow-succ' (1 + a) e)

module _ (i : ℕ) (known : i < 6) (a : ℕ) (positive : 0 < a) where
  shifted_term_within : (m : Mono) (c : ℤ) →
      (count (shifted (name_with i) a (term m c)) ≤ exp m i + 1) × (norm (shifted (name_with i) a (term m c)) ≤ nat_abs c * (1 + a) ^ exp m i)
  shifted_term_within m c =
      subst (λ p. (count p ≤ exp m i + 1) × (norm p ≤ nat_abs c * (1 + a) ^ exp m i)) (sym (shifted-term i known a m c))
      (let rest = term_within (with_exponent i 0 m) c in
      let product = products_within (term (with_exponent i 0 m) c) (power_of i a (exp m i)) in
      let power = count_power i known a positive (exp m i) in (
        omega (arith, product.0, mul-le-mul_right (count (power_of i a (exp m i))) rest.0, power),
        omega (arith, product.1, mul-le-mul_right (norm (power_of i a (exp m i))) rest.1, mul-le-mul_left (nat_abs c) (power_norm i a (exp m i))),
      ))

  shifted_list_within : (ts : List Term) →
      (count (shifted (name_with i) a (poly_of_terms ts)) ≤ shift_length i ts) ×
      (norm (shifted (name_with i) a (poly_of_terms ts)) ≤ shift_size i a ts)
  shifted_list_within [] =
      subst (λ p. (count p ≤ shift_length i []) × (norm p ≤ shift_size i a []))
      (sym (ap (shifted (name_with i) a) (no_terms [] refl) ∙ shifted-zero (name_with i) a))
      (let none = within_zero 0 in (none.few, none.small))
  shifted_list_within (t ∷ ts) =
      let later = shifted_list_within ts in
      let one = shifted_term_within t.mono t.coef in
      subst (λ p. (count p ≤ shift_length i (t ∷ ts)) × (norm p ≤ shift_size i a (t ∷ ts)))
      (sym (ap (shifted (name_with i) a) (poly_of-cons t ts) ∙ shifted-sum (name_with i) a _ _ ∙ sym (plus_is _ _)))
      (let sum = sums_within (shifted (name_with i) a (term t.mono t.coef)) (shifted (name_with i) a (poly_of_terms ts)) in (
        omega (arith, sum.0, one.0, later.0, sum_by-cons (λ t. exp t.mono i + 1) t ts),
        omega (arith, sum.1, one.1, later.1, sum_by-cons (λ t. nat_abs t.coef * (1 + a) ^ exp t.mono i) t ts),
      ))

pub shifts_within :
    (i : Name) (a : ℕ) (p : Polynomial) → 0 < a → (count (shifted i a p) ≤ shift_count i p) × (norm (shifted i a p) ≤ shift_norm i a p)
unfolding shift_count shift_norm poly_of_terms
shifts_within i a p positive =
    let ts = term_list p.terms in
    let value : poly_of_terms ts ≡ p = ap poly_of (entries-term_list p.terms) ∙ rebuilt p in
    let list = shifted_list_within (place i) (place_small i) a positive ts in
    let same : shifted (name_with (place i)) a (poly_of_terms ts) ≡ shifted i a p = ap₂ (λ j q. shifted j a q) (place-of_place i) value in (
      omega (
        arith,
        list.0,
        ap count same,
        sum_by-entries (λ e. exp e.0 (place i) + 1) ts,
        ap (sum_by (λ e. exp e.0 (place i) + 1)) (entries-term_list p.terms),
      ),
      omega (
        arith,
        list.1,
        ap norm same,
        sum_by-entries (λ e. nat_abs e.1 * (1 + a) ^ exp e.0 (place i)) ts,
        ap (sum_by (λ e. nat_abs e.1 * (1 + a) ^ exp e.0 (place i))) (entries-term_list p.terms),
      ),
    )
