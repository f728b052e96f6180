-- A whole number that divides each coefficient divides each term. Main lemmas `each_divides`, which `over_whole` cites,
-- `divided_by_one`, and `divides_negative`.
use Rattle.ct_poly.proofs.Base.{◌≡◌, ℕ, zero, suc, ◌*◌, ◌/◌, ℤ, pos, negsuc, neg_ℤ, ◌*ℤ◌, unsigned_abs, true, false, cond, List, [], ◌∷◌, map, ◌∣◌}
use Rattle.ct_poly.proofs.Base.{◌∙◌, ap, sym, subst, arith, T, div-mul_cancel, one-dvd, Mono, monomials, unit, exp-unit, Polynomial, polys, poly_of}
use Rattle.ct_poly.proofs.Base.{terms-poly_of, times, neg_mul, number_is, one_is, negated, AllBelow, EachTerm, IsCanonical, int_group, int_is_zero}
use Rattle.ct_poly.proofs.Base.{int_ring}
use Rattle.std.specs.Prelude.{refl}
use Rattle.ct_poly.specs.Content.{DividesAll, DividesEach, TermDivides, divided}
use Rattle.ct_poly.proofs.CommonMonomials.{exp_divides}
use Rattle.ct_poly.proofs.DividedTerms.{divided_whole}

multiple : (g : ℕ) (c : ℤ) (k : ℕ) → k * g ≡ unsigned_abs c → (q : ℤ) × (q *ℤ pos g ≡ c)
multiple g (pos n) k same = (pos k, ap pos same)
multiple g (negsuc n) k same = (neg_ℤ (pos k), neg_mul int_ring (pos k) (pos g) ∙ ap (λ x. neg_ℤ (pos x)) same)

pub each_divides : (g : ℕ) (es : List (Mono × ℤ)) → DividesAll g es → EachTerm (TermDivides unit (pos g)) es
each_divides g [] all = tt
each_divides g (e ∷ es) all = (
  (exp_divides unit e.0 (λ i small. omega (arith, exp-unit i small)), multiple g e.1 (unsigned_abs e.1 / g) (div-mul_cancel g all.0)),
  each_divides g es all.1,
)

one_divides : (es : List (Mono × ℤ)) → DividesAll 1 es
one_divides [] = tt
one_divides (e ∷ es) = (one-dvd (unsigned_abs e.1), one_divides es)

one_times : (p : Polynomial) → times polys.one p ≡ p
unfolding times
one_times p = polys.mul_comm polys.one p ∙ polys.mul_one p

pub divided_by_one : (p : Polynomial) → divided unit (pos 1) p ≡ p
divided_by_one p =
    sym (one_times (divided unit (pos 1) p)) ∙ ap (λ w. times w (divided unit (pos 1) p)) (one_is ∙ number_is (pos 1))
    ∙ divided_whole unit (pos 1) p (each_divides 1 p.terms (one_divides p.terms))

-- ---- negatives

abbrev negatives : List (Mono × ℤ) → List (Mono × ℤ)
negatives es = map (λ e. (e.0, neg_ℤ e.1)) es

nonzero-neg : (c : ℤ) → T (cond (int_is_zero c) false true) → T (cond (int_is_zero (neg_ℤ c)) false true)
nonzero-neg (pos zero) some = some
nonzero-neg (pos (suc n)) some = tt
nonzero-neg (negsuc n) some = tt

below-negatives : (m : Mono) (es : List (Mono × ℤ)) → AllBelow monomials int_group m es → AllBelow monomials int_group m (negatives es)
below-negatives m [] below = tt
below-negatives m (e ∷ es) below = (below.0, below-negatives m es below.1)

canonical-negatives : (es : List (Mono × ℤ)) → IsCanonical monomials int_group es → IsCanonical monomials int_group (negatives es)
canonical-negatives [] canonical = tt
canonical-negatives (e ∷ es) canonical = (nonzero-neg e.1 canonical.0, below-negatives e.0 es canonical.1, canonical-negatives es canonical.2)

negative_terms : (p : Polynomial) → (polys.neg p).terms ≡ negatives p.terms
unfolding negated poly_of
negative_terms p = terms-poly_of (negatives p.terms) (canonical-negatives p.terms p.canonical)

size-neg : (c : ℤ) → unsigned_abs c ≡ unsigned_abs (neg_ℤ c)
size-neg (pos zero) = refl
size-neg (pos (suc n)) = refl
size-neg (negsuc n) = refl

all_negatives : (d : ℕ) (es : List (Mono × ℤ)) → DividesAll d es → DividesAll d (negatives es)
all_negatives d [] all = tt
all_negatives d (e ∷ es) all = (subst (λ n. d ∣ n) (size-neg e.1) all.0, all_negatives d es all.1)

pub divides_negative : (d : ℕ) (p : Polynomial) → DividesEach d p → DividesEach d (polys.neg p)
divides_negative d p all = subst (DividesAll d) (sym (negative_terms p)) (all_negatives d p.terms all)
