-- A polynomial whose terms are all divided by one term. Main lemmas `divided_whole` (times the term it is the polynomial),
-- `divided_terms` (its terms are the quotients) and `divided_is_listed`, which the loop of `divided_terms` cites.
-- The list of the quotients times the term is the list of the terms; so it falls as that does.
use Rattle.ct_poly.proofs.Base.{◌≡◌, refl, ℕ, zero, suc, ◌*◌, ◌≤◌, ◌<◌, ℤ, pos, ◌*ℤ◌, int_div, nat_abs, true, false, cond, T, List, [], ◌∷◌, ◌++◌}
use Rattle.ct_poly.proofs.Base.{map, length, sym, ◌∙◌, ap, ap₂, subst, arith, append_assoc, append-nil, sum_by-cons, Mono, monomials, mono_ordered}
use Rattle.ct_poly.proofs.Base.{mono_cmp, ◌·◌, ·_comm, AllBelow, IsCanonical, EachTerm, is_less, not_zero, mul_zero, int_group, int_ring, int_is_zero}
use Rattle.ct_poly.proofs.Base.{term, Polynomial, poly_of, times, norm_of, terms-poly_of, row_of, poly_of-row, largest_norm}
use Rattle.ct_poly.specs.declared.term.Term.{Term}
use Rattle.ct_poly.specs.Terms.{entries, entry, size_of, IsFalling, IsListOf, poly_of_terms}
use Rattle.ct_poly.specs.Content.{TermDivides, term_divided, divided}
use Rattle.ct_poly.proofs.CommonMonomials.{divides_exp, without, without-·}
use Rattle.ct_poly.proofs.TermLists.{no_length, entries-append, rebuilt, poly_of-single, terms_of, norm_of-row, norm_of-entries, length-entries}
use Rattle.ct_poly.proofs.TermLists.{nonzero_coef}
use Rattle.ct_poly.proofs.WholeQuotients.{int_div-*, positive_abs}
use lib.IntN.{*ℤ_comm}

abbrev pub quotients : Mono → ℤ → List (Mono × ℤ) → List (Mono × ℤ)
quotients m d es = map (term_divided m d) es

-- a factor of a number that is not zero is not zero
pub divisor_nonzero : (q d c : ℤ) → q *ℤ d ≡ c → T (cond (int_is_zero c) false true) → d ≡ pos 0 → ⊥
divisor_nonzero q d c whole some none =
    not_zero monomials int_group c some (sym whole ∙ ap (λ w. q *ℤ w) none ∙ mul_zero int_ring q)

-- the quotients times the term are the terms
pub row-quotients :
    (m : Mono) (d : ℤ) (es : List (Mono × ℤ)) → IsCanonical monomials int_group es → EachTerm (TermDivides m d) es →
    row_of (m, d) (quotients m d es) ≡ es
row-quotients m d [] canonical each = refl
row-quotients m d (e ∷ es) canonical each =
    ap₂ (λ x xs. x ∷ xs)
    (ap₂ (λ k c. (k, c)) (·_comm m (without m e.0) ∙ without-· m e.0 (divides_exp m e.0 each.0.0)) (by each.0.1))
    (row-quotients m d es canonical.2 each.1)
  where
    by : (q : ℤ) × (q *ℤ d ≡ e.1) → d *ℤ int_div e.1 d ≡ e.1
    by (q, whole) =
        let some = divisor_nonzero q d e.1 whole canonical.0 in
        ap (λ c. d *ℤ int_div c d) (sym whole) ∙ ap (λ k. d *ℤ k) (int_div-* q d some) ∙ *ℤ_comm d q ∙ whole

-- ---- a row falls only where the list does

up_cmp : (m x y : Mono) → mono_cmp (m · x) (m · y) ≡ mono_cmp x y
up_cmp m x y = ap₂ mono_cmp (·_comm m x) (·_comm m y) ∙ mono_ordered.shifted m x y

below_back : (e : Mono × ℤ) (n : Mono) (fs : List (Mono × ℤ)) → AllBelow monomials int_group (e.0 · n) (row_of e fs) →
    AllBelow monomials int_group n fs
below_back e n [] below = tt
below_back e n (f ∷ fs) below = (subst (λ r. T (is_less r)) (up_cmp e.0 f.0 n) below.0, below_back e n fs below.1)

pub canonical_back : (e : Mono × ℤ) (fs : List (Mono × ℤ)) → IsCanonical monomials int_group (row_of e fs) → IsCanonical monomials int_group fs
canonical_back e [] canonical = tt
canonical_back e (f ∷ fs) canonical = (
  nonzero_coef f.1 (λ none. not_zero monomials int_group (e.1 *ℤ f.1) canonical.0 (ap (λ c. e.1 *ℤ c) none ∙ mul_zero int_ring e.1)),
  below_back e f.0 fs canonical.1,
  canonical_back e fs canonical.2,
)

canonical-quotients :
    (m : Mono) (d : ℤ) (es : List (Mono × ℤ)) → IsCanonical monomials int_group es → EachTerm (TermDivides m d) es →
    IsCanonical monomials int_group (quotients m d es)
canonical-quotients m d es canonical each =
    canonical_back (m, d) (quotients m d es) (subst (IsCanonical monomials int_group) (sym (row-quotients m d es canonical each)) canonical)

-- ---- the polynomial

pub divided_terms : (m : Mono) (d : ℤ) (p : Polynomial) → EachTerm (TermDivides m d) p.terms → (divided m d p).terms ≡ quotients m d p.terms
unfolding divided
divided_terms m d p each = terms-poly_of _ (canonical-quotients m d p.terms p.canonical each)

pub divided_whole : (m : Mono) (d : ℤ) (p : Polynomial) → EachTerm (TermDivides m d) p.terms → times (term m d) (divided m d p) ≡ p
unfolding divided
divided_whole m d p each =
    ap (λ w. times w (poly_of (quotients m d p.terms))) (sym (poly_of-single m d)) ∙ sym (poly_of-row (m, d) (quotients m d p.terms))
    ∙ ap poly_of (row-quotients m d p.terms p.canonical each) ∙ rebuilt p

-- ---- the list

pub size-quotients : (m : Mono) (d : ℤ) (es : List (Mono × ℤ)) → IsCanonical monomials int_group es → EachTerm (TermDivides m d) es →
    norm_of (quotients m d es) ≤ norm_of es
size-quotients m d [] canonical each = omega arith
size-quotients m d (e ∷ es) canonical each = by each.0.1
  where
    at_most : (n a b : ℕ) → 0 < n → n * a ≡ b → a ≤ b
    at_most zero a b some same = absurd (omega arith)
    at_most (suc n) a b some same = omega arith

    by : (q : ℤ) × (q *ℤ d ≡ e.1) → norm_of (quotients m d (e ∷ es)) ≤ norm_of (e ∷ es)
    by (q, whole) =
        let some : 0 < nat_abs d = positive_abs d (divisor_nonzero q d e.1 whole canonical.0) in
        let size : nat_abs d * norm_of (quotients m d (e ∷ es)) ≡ norm_of (e ∷ es) =
        sym (norm_of-row (m, d) (quotients m d (e ∷ es))) ∙ ap norm_of (row-quotients m d (e ∷ es) canonical each) in
        at_most (nat_abs d) _ _ some size

pub length-quotients : (m : Mono) (d : ℤ) (es : List (Mono × ℤ)) → length (quotients m d es) ≡ length es
length-quotients m d [] = refl
length-quotients m d (e ∷ es) = ap (λ n. suc n) (length-quotients m d es)

pub divided_is_listed :
    {p : Polynomial} (m : Mono) (d : ℤ) (ts v : List Term) → IsFalling ts → poly_of_terms ts ≡ p → EachTerm (TermDivides m d) (entries ts) →
    entries v ≡ quotients m d (entries ts) → IsListOf (divided m d p) (length ts) (size_of ts) v
unfolding divided poly_of_terms
divided_is_listed {p} m d ts v falling value each made = record {
  falling = subst (IsCanonical monomials int_group) (sym made) (canonical-quotients m d (entries ts) falling each);
  value = ap poly_of (made ∙ ap (quotients m d) (terms_of ts falling (unfold poly_of_terms in value)));
  few = omega (arith, length-entries v, ap length made, length-quotients m d (entries ts), length-entries ts);
  small = omega (arith, norm_of-entries v, ap norm_of made, size-quotients m d (entries ts) falling each, norm_of-entries ts);
}

-- ---- the loop

pub record IsDividing (m : Mono) (d : ℤ) (ts done rest : List Term) : Type 0 where
  pub made : entries done ++ quotients m d (entries rest) ≡ quotients m d (entries ts)
  pub falling : IsFalling rest
  pub small : size_of rest ≤ largest_norm
  pub each : EachTerm (TermDivides m d) (entries rest)

pub dividing_more :
    {m : Mono} {d : ℤ} {ts done all rest more : List Term} {t u : Term} → rest ≡ t ∷ more → all ≡ done ++ u ∷ [] →
    entry u ≡ term_divided m d (entry t) → IsDividing m d ts done rest → IsDividing m d ts all more
dividing_more {m} {d} {ts} {done} {all} {rest} {more} {t} {u} rest_is all_is divided g =
    let h : IsDividing m d ts done (t ∷ more) = subst (IsDividing m d ts done) rest_is g in
    record {
      made = ap (λ w. w ++ quotients m d (entries more)) (ap entries all_is ∙ entries-append done (u ∷ []))
          ∙ append_assoc (entries done) (entry u ∷ []) (quotients m d (entries more))
          ∙ ap (λ e. entries done ++ e ∷ quotients m d (entries more)) divided ∙ h.made;
      falling = h.falling.2;
      small = omega (arith, h.small, sum_by-cons (λ u. nat_abs u.coef) t more);
      each = h.each.1;
    }

pub dividing_ended :
    {m : Mono} {d : ℤ} {ts done rest : List Term} → length rest ≡ 0 → IsDividing m d ts done rest →
    entries done ≡ quotients m d (entries ts)
dividing_ended {m} {d} {ts} {done} {rest} empty g =
    sym (append-nil (entries done)) ∙ ap (λ r. entries done ++ quotients m d (entries r)) (sym (no_length rest empty)) ∙ g.made

-- the term at hand
pub head_divides :
    {m : Mono} {d : ℤ} {ts done rest more : List Term} {t : Term} → rest ≡ t ∷ more → IsDividing m d ts done rest →
    TermDivides m d t.mono t.coef
head_divides {m} {d} {ts} {done} rest_is g = (subst (IsDividing m d ts done) rest_is g).each.0

pub head_nonzero :
    {m : Mono} {d : ℤ} {ts done rest more : List Term} {t : Term} → rest ≡ t ∷ more → IsDividing m d ts done rest →
    t.coef ≡ pos 0 → ⊥
head_nonzero {m} {d} {ts} {done} {rest} {more} {t} rest_is g =
    not_zero monomials int_group t.coef (subst (IsDividing m d ts done) rest_is g).falling.0

pub head_small :
    {m : Mono} {d : ℤ} {ts done rest more : List Term} {t : Term} → rest ≡ t ∷ more → IsDividing m d ts done rest →
    nat_abs t.coef ≤ largest_norm
head_small {m} {d} {ts} {done} {rest} {more} {t} rest_is g =
    omega (arith, g.small, ap size_of rest_is, sum_by-cons (λ u. nat_abs u.coef) t more)
