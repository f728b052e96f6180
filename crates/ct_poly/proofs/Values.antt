-- From the list that an operation has made to the polynomial that it answers: what the type asks of the list, and the
-- value. Main lemmas `list_is_kept`, `sum_is`, `difference_answers` and `product_answers`, which the methods of `Poly` cite.
use Rattle.ct_poly.proofs.Base.{◌≡◌, refl, ℕ, ◌+◌, ◌*◌, ◌^◌, ◌≤◌, ◌<◌, ℤ, pos, zero, suc, nat_abs, List, [], ◌∷◌, length, sum_by, sym, ◌∙◌, ap, ap₂}
use Rattle.ct_poly.proofs.Base.{subst, arith, None, Ok, Err, mul-pos, ◌⊎◌, inl, inr, pow-zero, pow-succ', sum_by-cons, none, none_of, has_none}
use Rattle.ct_poly.proofs.Base.{derived, Mono, monomials, exp, place, name_with, Terms, Number, int_group, Polynomial, polys, plus, times, times_is}
use Rattle.ct_poly.proofs.Base.{count, norm, zero_mul, mul_zero, term, most_terms, largest_norm, verdict, verdict_fits, verdict_refuses}
use Rattle.ct_poly.specs.declared.term.Term.{Term}
use Rattle.ct_poly.specs.Terms.{size_of, IsFalling, IsListOf, CanMultiply, poly_of_terms, derivative_size, shift_size, shift_length}
use Rattle.ct_poly.specs.Measures.{minus, sum_overflow, product_overflow, checked_minus, checked_times, derivative_norm, checked_derived, shifted}
use Rattle.ct_poly.specs.Measures.{shift_norm, shift_count, shift_overflow, checked_shifted}
use Rattle.ct_poly.proofs.OverflowRules.{ProductFits, sum_fits_only, product_fits_only, product_with_zero, derivative_too_large, derivative_fits}
use Rattle.ct_poly.proofs.OverflowRules.{shift_too_many, shift_too_large, shift_fits, shift_by_none_fits}
use Rattle.ct_poly.proofs.ShiftValues.{shifted_by_none}
use Rattle.ct_poly.proofs.TermLists.{count_of-terms, norm_of-terms, degree_of-terms, greatest_total-falling, poly_of-one, terms_of, sum_by-entries}
use Rattle.ct_poly.proofs.TermLists.{place-name_with, nonzero_coef}

-- the list of a polynomial, as the type keeps it
abbrev pub IsKept : Polynomial → List Term → Type 0
IsKept p ts = IsListOf p most_terms largest_norm ts

-- a slice of the terms, from what is known of an opened value
pub kept :
    {p : Polynomial} (us ts : List Term) → us ≡ ts → IsFalling ts × (length ts ≤ most_terms) × (size_of ts ≤ largest_norm) →
    poly_of_terms ts ≡ p → IsKept p us
kept {p} us ts same asked value = subst (IsKept p) (sym same) (record { falling = asked.0; value = value; few = asked.1; small = asked.2 })

-- what the type asks of a list
pub list_is_kept :
    {p : Polynomial} {many size : ℕ} (v : List Term) → IsListOf p many size v → many ≤ most_terms → size ≤ largest_norm →
    IsFalling v × (length v ≤ most_terms) × (size_of v ≤ largest_norm)
list_is_kept v l few small = (l.falling, omega (arith, l.few), omega (arith, l.small))

-- ---- one term

pub list_of_term_is :
    (m : Mono) (c : ℤ) (v : List Term) → (c ≡ pos 0 → ⊥) → v ≡ record { mono = m; coef = c } ∷ [] →
    IsListOf (term m c) 1 (nat_abs c) v
list_of_term_is m c v some made =
    let t : Term = record { mono = m; coef = c } in
    subst (IsListOf (term m c) 1 (nat_abs c)) (sym made) (record {
      falling = (nonzero_coef c some, tt, tt);
      value = poly_of-one t;
      few = omega arith;
      small = omega (arith, sum_by-cons (λ u. nat_abs u.coef) t []);
    })

-- polynomials that are not zero have pairs of terms
count_of_nonzero : (p : Polynomial) → (p ≡ polys.zero → ⊥) → 0 < count p
unfolding count
count_of_nonzero p some = by p.terms refl
  where
    by : (es : List (Mono × ℤ)) → p.terms ≡ es → 0 < length p.terms
    by [] empty = absurd (some (none_of monomials int_group p (ap (has_none monomials int_group) empty)))
    by (e ∷ es) full = omega (arith, ap length full)

pub pairs_of_nonzero : (p q : Polynomial) → (p ≡ polys.zero → ⊥) → (q ≡ polys.zero → ⊥) → 0 < count p * count q
pairs_of_nonzero p q first second = mul-pos (count_of_nonzero p first) (count_of_nonzero q second)

-- ---- two lists

module _ {p q : Polynomial} (ps qs : List Term) (mine : IsKept p ps) (its : IsKept q qs) where
  counts : (count p ≡ length ps) × (count q ≡ length qs)
  counts = (count_of-terms ps mine.falling mine.value, count_of-terms qs its.falling its.value)

  norms : (norm p ≡ size_of ps) × (norm q ≡ size_of qs)
  norms = (norm_of-terms ps mine.falling mine.value, norm_of-terms qs its.falling its.value)

  -- ---- sums

  pub sum_small : None ≡ sum_overflow p q → size_of ps + size_of qs ≤ largest_norm
  sum_small none = omega (arith, norms.0, norms.1, (sum_fits_only p q (sym none)).small)

  module _ (v : List Term) (sum : IsListOf (plus (poly_of_terms ps) (poly_of_terms qs)) (length ps + length qs) (size_of ps + size_of qs) v) where
    pub sum_is_kept : None ≡ sum_overflow p q → IsFalling v × (length v ≤ most_terms) × (size_of v ≤ largest_norm)
    sum_is_kept none = list_is_kept v sum (omega (arith, counts.0, counts.1, (sum_fits_only p q (sym none)).few)) (sum_small none)

    pub sum_is : poly_of_terms v ≡ plus p q
    sum_is = sum.value ∙ ap₂ plus mine.value its.value

  -- ---- differences, where ns lists the negative of q

  module _ (ns : List Term) (negative : IsListOf (polys.neg (poly_of_terms qs)) (length qs) (size_of qs) ns) where
    pub difference_small : None ≡ sum_overflow p q → size_of ps + size_of ns ≤ largest_norm
    difference_small none = omega (arith, sum_small none, negative.small)

    module _ (v : List Term) (sum : IsListOf (plus (poly_of_terms ps) (poly_of_terms ns)) (length ps + length ns) (size_of ps + size_of ns) v)
        (none : None ≡ sum_overflow p q) where
      pub difference_is_kept : IsFalling v × (length v ≤ most_terms) × (size_of v ≤ largest_norm)
      difference_is_kept =
          list_is_kept v sum (omega (arith, counts.0, counts.1, negative.few, (sum_fits_only p q (sym none)).few)) (difference_small none)

      pub difference_answers : checked_minus p q ≡ Ok (poly_of_terms v)
      unfolding checked_minus minus
      difference_answers =
          verdict_fits _ _ _ (sym none) (sym (sum.value ∙ ap₂ plus mine.value (negative.value ∙ ap polys.neg its.value)))

  -- ---- products

  module _ (first : p ≡ polys.zero → ⊥) (second : q ≡ polys.zero → ⊥) (none : None ≡ product_overflow p q) where
    some : 0 < count p * count q
    some = pairs_of_nonzero p q first second

    fits : ProductFits p q
    fits = product_fits_only p q some (sym none)

    pub can_multiply : CanMultiply ps qs
    can_multiply = record {
      first = mine.falling;
      second = its.falling;
      degrees = omega (
        arith,
        fits.low,
        greatest_total-falling ps mine.falling,
        greatest_total-falling qs its.falling,
        degree_of-terms ps mine.falling mine.value,
        degree_of-terms qs its.falling its.value,
      );
      sizes = omega (arith, fits.small, ap₂ ◌*◌ norms.0 norms.1);
    }

    module _ (v : List Term) (product : IsListOf (times (poly_of_terms ps) (poly_of_terms qs)) (length ps * length qs) (size_of ps * size_of qs) v)
      where
        pub product_is_kept : IsFalling v × (length v ≤ most_terms) × (size_of v ≤ largest_norm)
        product_is_kept = list_is_kept v product (omega (arith, fits.few, ap₂ ◌*◌ counts.0 counts.1)) can_multiply.sizes

        pub product_answers : checked_times p q ≡ Ok (poly_of_terms v)
        unfolding checked_times
        product_answers = verdict_fits _ _ _ (sym none) (sym (product.value ∙ ap₂ times mine.value its.value))

count-zero : count polys.zero ≡ 0
unfolding count none
count-zero = refl

pub no_pairs : (p q : Polynomial) → (p ≡ polys.zero) ⊎ (q ≡ polys.zero) → count p * count q ≡ 0
no_pairs p q (inl vanish) = ap (λ n. n * count q) (ap count vanish ∙ count-zero) ∙ omega arith
no_pairs p q (inr vanish) = ap (λ n. count p * n) (ap count vanish ∙ count-zero) ∙ omega arith

pub product_with_zero_answers : (p q r : Polynomial) → (p ≡ polys.zero) ⊎ (q ≡ polys.zero) → r ≡ polys.zero → checked_times p q ≡ Ok r
unfolding checked_times
product_with_zero_answers p q r vanish r_is =
    verdict_fits _ _ _ (product_with_zero p q (no_pairs p q vanish)) (times_is p q ∙ vanishes vanish ∙ sym r_is)
  where
    vanishes : (p ≡ polys.zero) ⊎ (q ≡ polys.zero) → polys.◌*◌ p q ≡ polys.zero
    vanishes (inl e) = ap (λ w. polys.◌*◌ w q) e ∙ zero_mul polys q
    vanishes (inr e) = ap (λ w. polys.◌*◌ p w) e ∙ mul_zero polys p

-- ---- derivatives

module _ {p : Polynomial} (i : ℕ) (known : i < 6) (ts : List Term) (mine : IsKept p ts) where
  derivative_norm_is : derivative_norm (name_with i) p ≡ derivative_size i ts
  unfolding derivative_norm
  derivative_norm_is =
      ap (λ es. sum_by (λ e. nat_abs e.1 * exp e.0 (place (name_with i))) es) (sym (terms_of ts mine.falling mine.value))
      ∙ sum_by-entries (λ e. nat_abs e.1 * exp e.0 (place (name_with i))) ts
      ∙ ap (λ k. derivative_size k ts) (place-name_with i known)

  pub derivative_refused : largest_norm < derivative_size i ts → checked_derived (name_with i) p ≡ Err Number
  unfolding checked_derived
  derivative_refused large = verdict_refuses _ _ _ (derivative_too_large (name_with i) p (omega (arith, derivative_norm_is)))

  pub derivative_answers :
      (v : List Term) → IsListOf (derived (name_with i) (poly_of_terms ts)) (length ts) (derivative_size i ts) v →
      derivative_size i ts ≤ largest_norm → checked_derived (name_with i) p ≡ Ok (poly_of_terms v)
  unfolding checked_derived
  derivative_answers v made small =
      verdict_fits _ _ _ (derivative_fits (name_with i) p (omega (arith, derivative_norm_is)))
      (sym (made.value ∙ ap (derived (name_with i)) mine.value))

-- ---- shifts

module _ {p : Polynomial} (i : ℕ) (known : i < 6) (a : ℕ) (ts : List Term) (mine : IsKept p ts) where
  shift_norm_is : shift_norm (name_with i) a p ≡ shift_size i a ts
  unfolding shift_norm
  shift_norm_is =
      ap (λ es. sum_by (λ e. nat_abs e.1 * (1 + a) ^ exp e.0 (place (name_with i))) es) (sym (terms_of ts mine.falling mine.value))
      ∙ sum_by-entries (λ e. nat_abs e.1 * (1 + a) ^ exp e.0 (place (name_with i))) ts
      ∙ ap (λ k. shift_size k a ts) (place-name_with i known)

  shift_count_is : shift_count (name_with i) p ≡ shift_length i ts
  unfolding shift_count
  shift_count_is =
      ap (λ es. sum_by (λ e. exp e.0 (place (name_with i)) + 1) es) (sym (terms_of ts mine.falling mine.value))
      ∙ sum_by-entries (λ e. exp e.0 (place (name_with i)) + 1) ts
      ∙ ap (λ k. shift_length k ts) (place-name_with i known)

  pub shift_refused_terms : 0 < a → most_terms < shift_length i ts → checked_shifted (name_with i) a p ≡ Err Terms
  unfolding checked_shifted
  shift_refused_terms some many = verdict_refuses _ _ _ (shift_too_many (name_with i) a p some (omega (arith, shift_count_is)))

  pub shift_refused_number : 0 < a → shift_length i ts ≤ most_terms → largest_norm < shift_size i a ts →
      checked_shifted (name_with i) a p ≡ Err Number
  unfolding checked_shifted
  shift_refused_number some few large =
      verdict_refuses _ _ _ (shift_too_large (name_with i) a p some (omega (arith, shift_count_is)) (omega (arith, shift_norm_is)))

  pub shift_answers :
      (v : List Term) → IsListOf (shifted (name_with i) a (poly_of_terms ts)) (shift_length i ts) (shift_size i a ts) v →
      0 < a → shift_length i ts ≤ most_terms → shift_size i a ts ≤ largest_norm → checked_shifted (name_with i) a p ≡ Ok (poly_of_terms v)
  unfolding checked_shifted
  shift_answers v made some few small =
      verdict_fits _ _ _ (shift_fits (name_with i) a p some (omega (arith, shift_count_is)) (omega (arith, shift_norm_is)))
      (sym (made.value ∙ ap (shifted (name_with i) a) mine.value))

one_power : (e : ℕ) → (1 + 0) ^ e ≡ 1
one_power zero = pow-zero (1 + 0)
one_power (suc e) = pow-succ' (1 + 0) e ∙ omega (arith, one_power e)

shift_size-none : (i : ℕ) (ts : List Term) → shift_size i 0 ts ≡ size_of ts
shift_size-none i [] = refl
shift_size-none i (t ∷ ts) =
    sum_by-cons (λ t. nat_abs t.coef * (1 + 0) ^ exp t.mono i) t ts
    ∙ ap₂ ◌+◌ (ap (λ n. nat_abs t.coef * n) (one_power (exp t.mono i)) ∙ omega arith) (shift_size-none i ts)
    ∙ sym (sum_by-cons (λ t. nat_abs t.coef) t ts)

pub shift_by_none_answers :
    {p : Polynomial} (i : ℕ) → i < 6 → (a : ℕ) → a ≡ 0 → (ts : List Term) → IsKept p ts → (r : Polynomial) → r ≡ p →
    checked_shifted (name_with i) a p ≡ Ok r
unfolding checked_shifted
shift_by_none_answers {p} i known a none ts mine r same =
    ap (λ n. verdict (shift_overflow (name_with i) n p) (shifted (name_with i) n p)) none
    ∙ verdict_fits _ _ _ (shift_by_none_fits (name_with i) p (omega (arith, shift_norm_is i known 0 ts mine, shift_size-none i ts, mine.small)))
    (shifted_by_none (name_with i) p ∙ sym same)
