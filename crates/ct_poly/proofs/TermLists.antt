-- What a list of terms says of the polynomial that it stands for: its terms, measures and names.
-- Main lemmas `terms_of`, `norm_of-terms`, `count_of-terms` and `degree_of-terms`, which the methods of `Poly` cite.
-- A canonical list is the terms of its polynomial, so each is an equation of lists.
use Rattle.ct_poly.proofs.Base.{◌≡◌, ◌↔◌, pos, negsuc, ◌+ℤ◌, ◌*ℤ◌, ◌*◌, refl, ℕ, zero, suc, ◌+◌, ◌≤◌, ◌<◌, ℤ, nat_abs, List, [], ◌∷◌, ◌++◌, length}
use Rattle.ct_poly.proofs.Base.{sum_by, Ordering, Less, Equal, Greater, is_eq, T, cond, true, false, sym, ◌∙◌, ap, ap₂, subst, arith, IsTrue}
use Rattle.ct_poly.proofs.Base.{sum_by-cons, ints, unsigned_abs-mul, Mono, monomials, ◌·◌, mono_cmp, mono_tied, mono_same, total, total_of_less}
use Rattle.ct_poly.proofs.Base.{AllBelow, less_is, place, name_with, none, same_terms, int_group, int_is_zero, row_of, poly_of-row, row_canonical}
use Rattle.ct_poly.proofs.Base.{sum_of-none, sum_of-one, sum_of-append, term, term_is, Polynomial, polys, poly_of, times, count, norm, norm_of}
use Rattle.ct_poly.proofs.Base.{degree, terms-poly_of}
use Rattle.ct_poly.specs.declared.term.Term.{Term}
use Rattle.ct_poly.specs.Terms.{entries, entry, size_of, greatest_total, IsFalling, poly_of_terms}
use Rattle.ct_algebra.specs.Polynomial as poly

-- a falling list is the terms of its polynomial
pub terms_of : {p : Polynomial} (ts : List Term) → IsFalling ts → poly_of_terms ts ≡ p → entries ts ≡ p.terms
unfolding poly_of_terms
terms_of ts falling value = sym (terms-poly_of (entries ts) falling) ∙ ap (λ q. q.terms) value

-- a sum over the terms, as the measures of a polynomial have it
pub sum_by-entries : (w : Mono × ℤ → ℕ) (ts : List Term) → sum_by w (entries ts) ≡ sum_by (λ t. w (t.mono, t.coef)) ts
sum_by-entries w [] = refl
sum_by-entries w (t ∷ ts) =
    sum_by-cons w (t.mono, t.coef) (entries ts) ∙ ap (λ n. w (t.mono, t.coef) + n) (sum_by-entries w ts)
    ∙ sym (sum_by-cons (λ u. w (u.mono, u.coef)) t ts)

pub norm_of-entries : (ts : List Term) → norm_of (entries ts) ≡ size_of ts
norm_of-entries ts = sum_by-entries (λ e. nat_abs e.1) ts

pub length-entries : (ts : List Term) → length (entries ts) ≡ length ts
length-entries [] = refl
length-entries (t ∷ ts) = ap (λ n. suc n) (length-entries ts)

pub norm_of-terms : {p : Polynomial} (ts : List Term) → IsFalling ts → poly_of_terms ts ≡ p → norm p ≡ size_of ts
unfolding norm
norm_of-terms ts falling value = ap norm_of (sym (terms_of ts falling value)) ∙ norm_of-entries ts

pub count_of-terms : {p : Polynomial} (ts : List Term) → IsFalling ts → poly_of_terms ts ≡ p → count p ≡ length ts
unfolding count
count_of-terms ts falling value = ap length (sym (terms_of ts falling value)) ∙ length-entries ts

pub degree_of-terms :
    {p : Polynomial} (ts : List Term) → IsFalling ts → poly_of_terms ts ≡ p → degree p ≡ poly.degree_of (entries ts)
unfolding degree
degree_of-terms ts falling value = ap poly.degree_of (sym (terms_of ts falling value))

pub entries-append : (ts us : List Term) → entries (ts ++ us) ≡ entries ts ++ entries us
entries-append [] us = refl
entries-append (t ∷ ts) us = ap (λ es. (t.mono, t.coef) ∷ es) (entries-append ts us)

pub no_length : (ts : List Term) → length ts ≡ 0 → ts ≡ []
no_length [] empty = refl
no_length (t ∷ ts) empty = absurd (omega arith)

pub no_terms : (ts : List Term) → ts ≡ [] → poly_of_terms ts ≡ polys.zero
unfolding poly_of_terms poly_of
no_terms ts empty = ap (λ us. poly_of (entries us)) empty ∙ sum_of-none monomials int_group

pub poly_of-none : poly_of_terms [] ≡ polys.zero
poly_of-none = no_terms [] refl

pub poly_of-one : (t : Term) → poly_of_terms (t ∷ []) ≡ term t.mono t.coef
unfolding poly_of_terms poly_of
poly_of-one t = sum_of-one monomials int_group (t.mono, t.coef) ∙ sym (term_is t.mono t.coef)

pub poly_of-append : (ts us : List Term) → poly_of_terms (ts ++ us) ≡ polys.◌+◌ (poly_of_terms ts) (poly_of_terms us)
unfolding poly_of_terms poly_of
poly_of-append ts us = ap poly_of (entries-append ts us) ∙ sum_of-append monomials int_group (entries ts) (entries us)

pub poly_of-cons : (t : Term) (ts : List Term) → poly_of_terms (t ∷ ts) ≡ polys.◌+◌ (term t.mono t.coef) (poly_of_terms ts)
poly_of-cons t ts = poly_of-append (t ∷ []) ts ∙ ap (λ p. polys.◌+◌ p (poly_of_terms ts)) (poly_of-one t)

-- a falling list without terms stands for 0, and no other
pub is_none : {p : Polynomial} (ts : List Term) → IsFalling ts → poly_of_terms ts ≡ p → (length ts ≡ 0) ↔ (p ≡ polys.zero)
is_none ts falling value =
    (λ empty. sym value ∙ no_terms ts (no_length ts empty), λ zero. no_entries ts (terms_of ts falling (value ∙ zero) ∙ terms-none))
  where
    terms-none : polys.zero.terms ≡ []
    terms-none = unfold none in refl

    no_entries : (ts : List Term) → entries ts ≡ [] → length ts ≡ 0
    no_entries [] e = refl
    no_entries (t ∷ ts) e = cc

-- two falling lists stand for one polynomial exactly where they have the same terms
pub same_of-terms :
    {p q : Polynomial} (ps qs : List Term) → IsFalling ps → poly_of_terms ps ≡ p → IsFalling qs → poly_of_terms qs ≡ q →
    (entries ps ≡ entries qs) ↔ (p ≡ q)
unfolding poly_of_terms
same_of-terms ps qs fp p_is fq q_is =
    (λ same. sym p_is ∙ ap poly_of same ∙ q_is, λ same. terms_of ps fp p_is ∙ ap (λ w. w.terms) same ∙ sym (terms_of qs fq q_is))

pub place-name_with : (i : ℕ) → i < 6 → place (name_with i) ≡ i
place-name_with zero small = refl
place-name_with (suc zero) small = refl
place-name_with (suc (suc zero)) small = refl
place-name_with (suc (suc (suc zero))) small = refl
place-name_with (suc (suc (suc (suc zero)))) small = refl
place-name_with (suc (suc (suc (suc (suc zero))))) small = refl
place-name_with (suc (suc (suc (suc (suc (suc i)))))) small = absurd (omega arith)

-- two terms with equal coefficients are the same exactly where their monomials tie
pub same_entry :
    (a b : Term) (o : Ordering) → a.coef ≡ b.coef → o ≡ mono_cmp a.mono b.mono → IsTrue (is_eq o) ↔ (entry a ≡ entry b)
same_entry a b o coefs compared = (
  λ tied. λ i. (mono_tied a.mono b.mono (sym compared ∙ is_Equal o tied) i, coefs i),
  λ same. subst (λ w. IsTrue (is_eq w)) (sym (compared ∙ ap (mono_cmp a.mono) (sym (ap (λ e. e.0) same)) ∙ mono_same a.mono)) refl,
)
  where
    is_Equal : (o : Ordering) → IsTrue (is_eq o) → o ≡ Equal
    is_Equal Less h = cc
    is_Equal Equal h = refl
    is_Equal Greater h = cc

-- the greatest total of a falling list is that of its first term
pub greatest_total-falling : (ts : List Term) → IsFalling ts → greatest_total ts ≡ poly.degree_of (entries ts)
greatest_total-falling [] falling = refl
greatest_total-falling (t ∷ ts) falling = omega (arith, lower t.mono ts falling.1)
  where
    lower : (m : Mono) (ts : List Term) → AllBelow monomials int_group m (entries ts) → greatest_total ts ≤ total m
    lower m [] below = omega arith
    lower m (t ∷ ts) below = omega (arith, total_of_less t.mono m (less_is monomials int_group _ below.0), lower m ts below.1)

-- ---- the terms of a term times a polynomial

pub rebuilt : (q : Polynomial) → poly_of q.terms ≡ q
rebuilt q = same_terms monomials int_group _ q (terms-poly_of q.terms q.canonical)

pub poly_of-single : (m : Mono) (c : ℤ) → poly_of ((m, c) ∷ []) ≡ term m c
unfolding poly_of
poly_of-single m c = sum_of-one monomials int_group (m, c) ∙ sym (term_is m c)

pub terms-multiple :
    (m : Mono) (c : ℤ) (q : Polynomial) → T (cond (int_is_zero c) false true) →
    (times (term m c) q).terms ≡ row_of (m, c) q.terms
terms-multiple m c q some =
    ap (λ p. p.terms) (sym (poly_of-row (m, c) q.terms ∙ ap₂ times (poly_of-single m c) (rebuilt q)))
    ∙ terms-poly_of (row_of (m, c) q.terms) (row_canonical (m, c) q.terms some q.canonical)

-- ---- measures of rows and sums

pub norm_of-row : (e : Mono × ℤ) (fs : List (Mono × ℤ)) → norm_of (row_of e fs) ≡ nat_abs e.1 * norm_of fs
norm_of-row e [] = omega arith
norm_of-row e (f ∷ fs) =
    omega (
      arith,
      sum_by-cons (λ d. nat_abs d.1) (e.0 · f.0, e.1 *ℤ f.1) (row_of e fs),
      sum_by-cons (λ d. nat_abs d.1) f fs,
      norm_of-row e fs,
      unsigned_abs-mul e.1 f.1,
      ap (λ n. nat_abs e.1 * n) (sum_by-cons (λ d. nat_abs d.1) f fs),
    )

pub length-row : (e : Mono × ℤ) (fs : List (Mono × ℤ)) → length (row_of e fs) ≡ length fs
length-row e [] = refl
length-row e (f ∷ fs) = ap (λ n. suc n) (length-row e fs)

pub abs_sum : (a b : ℤ) → nat_abs (a +ℤ b) ≤ nat_abs a + nat_abs b
abs_sum a b = omega (arith, ints)

-- a whole number that is not zero, as falling lists ask it
pub nonzero_coef : (c : ℤ) → (c ≡ pos 0 → ⊥) → T (cond (int_is_zero c) false true)
nonzero_coef (pos zero) some = absurd (some refl)
nonzero_coef (pos (suc n)) some = tt
nonzero_coef (negsuc n) some = tt

pub positive_coef : (a : ℕ) → 0 < a → T (cond (int_is_zero (pos a)) false true)
positive_coef zero some = absurd (omega arith)
positive_coef (suc a) some = tt
