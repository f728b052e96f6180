-- A polynomial over a whole number that divides each coefficient: times the number it is the polynomial, and its content
-- times the number divides the content. Main lemmas `part_whole` and `content_of_part`, which Normal cites.
use Rattle.ct_frac.proofs.Base.{◌≡◌, refl, ℕ, zero, suc, ◌*◌, ℤ, pos, negsuc, ◌*ℤ◌, int_div, unsigned_abs, true, false, cond, T, List, [], ◌∷◌, map}
use Rattle.ct_frac.proofs.Base.{Ordering, Less, Equal, Greater, sym, ◌∙◌, ap, ap₂, subst, ◌∣◌, unsigned_abs-mul, mul-dvd-mul_right, Mono, monomials}
use Rattle.ct_frac.proofs.Base.{mono_cmp, unit, Polynomial, polys, times, number, number_is, AllBelow, EachTerm, IsCanonical, by_order, pick}
use Rattle.ct_frac.proofs.Base.{value_at, int_group, int_is_zero, at, at-negated, neg_sum, neg_zero, same_list, DividesAll, TermDivides, content}
use Rattle.ct_frac.proofs.Base.{divided, content_is, content_only}
use Rattle.ct_poly.proofs.WholeDivisors.{each_divides}
use Rattle.ct_poly.proofs.DividedTerms.{quotients, divisor_nonzero, divided_whole, divided_terms}
use Rattle.ct_poly.proofs.WholeQuotients.{int_div-*}

pub all_divided : (g : ℕ) (p : Polynomial) → g ∣ content p → EachTerm (TermDivides unit (pos g)) p.terms
all_divided g p divides = each_divides g p.terms ((content_is p g).0 divides)

pub part_whole : (g : ℕ) (p : Polynomial) → g ∣ content p → times (number (pos g)) (divided unit (pos g) p) ≡ p
part_whole g p divides =
    ap (λ w. times w (divided unit (pos g) p)) (number_is (pos g)) ∙ divided_whole unit (pos g) p (all_divided g p divides)

times_each :
    (x g : ℕ) (es : List (Mono × ℤ)) → IsCanonical monomials int_group es → EachTerm (TermDivides unit (pos g)) es →
    DividesAll x (quotients unit (pos g) es) → DividesAll (x * g) es
times_each x g [] canonical each all = tt
times_each x g (e ∷ es) canonical each all = (by each.0.1, times_each x g es canonical.2 each.1 all.1)
  where
    by : (q : ℤ) × (q *ℤ pos g ≡ e.1) → x * g ∣ unsigned_abs e.1
    by (q, whole) =
        let same : int_div e.1 (pos g) ≡ q =
        ap (λ c. int_div c (pos g)) (sym whole) ∙ int_div-* q (pos g) (divisor_nonzero q (pos g) e.1 whole canonical.0) in
        let size : unsigned_abs (int_div e.1 (pos g)) * g ≡ unsigned_abs e.1 =
        ap (λ k. unsigned_abs k * g) same ∙ sym (unsigned_abs-mul q (pos g)) ∙ ap unsigned_abs whole in
        subst (λ n. x * g ∣ n) size (mul-dvd-mul_right x all.0 g)

pub content_of_part :
    (x g : ℕ) (p : Polynomial) → g ∣ content p → x ∣ content (divided unit (pos g) p) → x * g ∣ content p
content_of_part x g p divides more =
    let each = all_divided g p divides in
    let all : DividesAll x (quotients unit (pos g) p.terms) =
    subst (DividesAll x) (divided_terms unit (pos g) p each) ((content_is (divided unit (pos g) p) x).0 more) in
    (content_is p (x * g)).1 (times_each x g p.terms p.canonical each all)

-- ---- contents

abbrev negatives : List (Mono × ℤ) → List (Mono × ℤ)
negatives es = map (λ e. (e.0, int_group.neg e.1)) es

below-negatives : (m : Mono) (es : List (Mono × ℤ)) → AllBelow monomials int_group m es → AllBelow monomials int_group m (negatives es)
below-negatives m [] below = tt
below-negatives m (e ∷ es) below = (below.0, below-negatives m es below.1)

canonical-negatives : (es : List (Mono × ℤ)) → IsCanonical monomials int_group es → IsCanonical monomials int_group (negatives es)
canonical-negatives [] canonical = tt
canonical-negatives (e ∷ es) canonical = (nonzero e.1 canonical.0, below-negatives e.0 es canonical.1, canonical-negatives es canonical.2)
  where
    nonzero : (c : ℤ) → T (cond (int_is_zero c) false true) → T (cond (int_is_zero (int_group.neg c)) false true)
    nonzero (pos zero) there = there
    nonzero (pos (suc n)) there = tt
    nonzero (negsuc n) there = tt

value_at-negatives : (k : Mono) (es : List (Mono × ℤ)) →
    value_at monomials int_group (negatives es) k ≡ int_group.neg (value_at monomials int_group es k)
value_at-negatives k [] = sym (neg_zero int_group)
value_at-negatives k (e ∷ es) =
    ap₂ int_group.◌+◌ (by (mono_cmp e.0 k) e.1) (value_at-negatives k es)
    ∙ sym (neg_sum int_group (pick monomials int_group k e.0 e.1) (value_at monomials int_group es k))
  where
    by : (r : Ordering) (c : ℤ) → by_order r int_group.zero (int_group.neg c) int_group.zero ≡ int_group.neg
        (by_order r int_group.zero c int_group.zero)
    by Less c = sym (neg_zero int_group)
    by Equal c = refl
    by Greater c = sym (neg_zero int_group)

value_at-neg : (p : Polynomial) (k : Mono) →
    value_at monomials int_group (polys.neg p).terms k ≡ int_group.neg (value_at monomials int_group p.terms k)
unfolding at
value_at-neg p k = at-negated monomials int_group p k

terms-negative : (p : Polynomial) → (polys.neg p).terms ≡ negatives p.terms
terms-negative p =
    same_list monomials int_group (polys.neg p).terms (negatives p.terms) (polys.neg p).canonical (canonical-negatives p.terms p.canonical)
    (λ k. value_at-neg p k ∙ sym (value_at-negatives k p.terms))

pub content-negative : (p : Polynomial) → content (polys.neg p) ≡ content p
content-negative p = sym
    (content_only (polys.neg p) (content p)
    (λ d. (
      λ divides. subst (DividesAll d) (sym (terms-negative p)) (into d p.terms ((content_is p d).0 divides)),
      λ all. (content_is p d).1 (back d p.terms (subst (DividesAll d) (terms-negative p) all)),
    )))
  where
    size : (c : ℤ) → unsigned_abs (int_group.neg c) ≡ unsigned_abs c
    size (pos zero) = refl
    size (pos (suc n)) = refl
    size (negsuc n) = refl

    into : (d : ℕ) (es : List (Mono × ℤ)) → DividesAll d es → DividesAll d (negatives es)
    into d [] all = tt
    into d (e ∷ es) all = (subst (λ k. d ∣ k) (sym (size e.1)) all.0, into d es all.1)

    back : (d : ℕ) (es : List (Mono × ℤ)) → DividesAll d (negatives es) → DividesAll d es
    back d [] all = tt
    back d (e ∷ es) all = (subst (λ k. d ∣ k) (size e.1) all.0, back d es all.1)
