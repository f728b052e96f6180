-- The written form of an operator as one list of coefficient terms. Main lemmas: `coefficients_written` (the coefficient
-- terms of an operator are in written form) and `coefficients_of_sum` (a list in written form is the coefficient terms of
-- its sum). Values at keys tell two such lists apart.
use Rattle.ct_ore.proofs.Base.{◌≡◌, ℤ, T, List, [], ◌∷◌, ◌++◌, map, sym, ◌∙◌, ap, ap₂, subst, Ordering, Less, Equal, Greater, ordering_then, by_order}
use Rattle.ct_ore.proofs.Base.{is_less, sum_over, pick, value_at, AllBelow, IsCanonical, same_list, less_is, at, at-⊕, at-none, at-single, int_group}
use Rattle.ct_ore.proofs.Base.{Mono, monomials, mono_cmp, mono_same, Polynomial, polys, term, term_is, Operator, operator_group, at-term_of}
use Rattle.std.specs.Prelude.{refl}
use Rattle.ct_ore.specs.declared.coefficient_term.CoefficientTerm.{CoefficientTerm}
use Rattle.ct_ore.specs.CoefficientTerms.{by_parts, pair_cmp, pair_cmp_is, keyed, part, sum_of_parts, IsWritten, row_of, all_terms, coefficient_terms}
use Rattle.ct_ore.proofs.CoefficientSums.{sum_of_coefficients}

-- ---- values at keys

abbrev number_at : Operator → Mono → Mono → ℤ
number_at p m n = at monomials int_group (at monomials polys.group p m) n

number_at-part :
    (k : Mono × Mono) (x : ℤ) (m n : Mono) → number_at (part k x) m n ≡ pick by_parts int_group (m, n) k x
number_at-part k x m n =
    ap (λ c. at monomials int_group c n) (at-term_of k.0 m (term k.1 x))
    ∙ by (mono_cmp k.0 m)
    ∙ ap (λ r. by_order r int_group.zero x int_group.zero) (sym (pair_cmp_is k (m, n)))
  where
    by :
        (r : Ordering) →
        at monomials int_group (by_order r polys.zero (term k.1 x) polys.zero) n ≡
        by_order (ordering_then r (mono_cmp k.1 n)) int_group.zero x int_group.zero
    by Less = at-none monomials int_group n
    by Equal = ap (λ c. at monomials int_group c n) (term_is k.1 x) ∙ at-single monomials int_group k.1 n x
    by Greater = at-none monomials int_group n

number_at-sum :
    (es : List ((Mono × Mono) × ℤ)) (m n : Mono) →
    number_at (sum_over operator_group part es) m n ≡ value_at by_parts int_group es (m, n)
number_at-sum [] m n =
    ap (λ c. at monomials int_group c n) (at-none monomials polys.group m) ∙ at-none monomials int_group n
number_at-sum (e ∷ es) m n =
    ap (λ c. at monomials int_group c n) (at-⊕ monomials polys.group (part e.0 e.1) (sum_over operator_group part es) m)
    ∙ at-⊕ monomials int_group _ _ n
    ∙ ap₂ int_group.◌+◌ (number_at-part e.0 e.1 m n) (number_at-sum es m n)

-- ---- the coefficient terms are in written form

module _ (m : Mono) where
  same_symbols : (x y : Mono) → pair_cmp (m, x) (m, y) ≡ mono_cmp x y
  same_symbols x y = pair_cmp_is (m, x) (m, y) ∙ ap (λ r. ordering_then r (mono_cmp x y)) (mono_same m)

  row_below :
      (n : Mono) (es : List (Mono × ℤ)) → AllBelow monomials int_group n es →
      AllBelow by_parts int_group (m, n) (keyed (row_of m es))
  row_below n [] below = tt
  row_below n (e ∷ es) below =
      (subst (λ r. T (is_less r)) (sym (same_symbols e.0 n)) below.0, row_below n es below.1)

-- symbols that are lower come later, whatever the names
lower_symbols : (m k x y : Mono) → mono_cmp k m ≡ Less → pair_cmp (k, x) (m, y) ≡ Less
lower_symbols m k x y less = pair_cmp_is (k, x) (m, y) ∙ ap (λ r. ordering_then r (mono_cmp x y)) less

row_lower :
    (m n k : Mono) (ds : List (Mono × ℤ)) → mono_cmp k m ≡ Less →
    AllBelow by_parts int_group (m, n) (keyed (row_of k ds))
row_lower m n k [] less = tt
row_lower m n k (d ∷ ds) less =
    (subst (λ r. T (is_less r)) (sym (lower_symbols m k d.0 n less)) tt, row_lower m n k ds less)

AllBelow-append :
    (k : Mono × Mono) (ts us : List CoefficientTerm) → AllBelow by_parts int_group k (keyed ts) →
    AllBelow by_parts int_group k (keyed us) → AllBelow by_parts int_group k (keyed (ts ++ us))
AllBelow-append k [] us a b = b
AllBelow-append k (t ∷ ts) us a b = (a.0, AllBelow-append k ts us a.1 b)

all_lower :
    (m n : Mono) (es : List (Mono × Polynomial)) → AllBelow monomials polys.group m es →
    AllBelow by_parts int_group (m, n) (keyed (all_terms es))
all_lower m n [] below = tt
all_lower m n (e ∷ es) below =
    AllBelow-append (m, n) (row_of e.0 e.1.terms) (all_terms es)
    (row_lower m n e.0 e.1.terms (less_is monomials polys.group _ below.0)) (all_lower m n es below.1)

row_then :
    (m : Mono) (ds : List (Mono × ℤ)) (es : List (Mono × Polynomial)) → IsCanonical monomials int_group ds →
    AllBelow monomials polys.group m es → IsCanonical by_parts int_group (keyed (all_terms es)) →
    IsCanonical by_parts int_group (keyed (row_of m ds ++ all_terms es))
row_then m [] es h below later = later
row_then m (d ∷ ds) es h below later =
    (h.0, AllBelow-append (m, d.0) (row_of m ds) (all_terms es) (row_below m d.0 ds h.1) (all_lower m d.0 es below), row_then m ds es h.2 below later)

pub all_written : (es : List (Mono × Polynomial)) → IsCanonical monomials polys.group es → IsWritten (all_terms es)
all_written [] h = tt
all_written (e ∷ es) h = row_then e.0 e.1.terms es e.1.canonical h.1 (all_written es h.2)

pub coefficients_written : (p : Operator) → IsWritten (coefficient_terms p)
unfolding coefficient_terms
coefficients_written p = all_written p.terms p.canonical

-- ---- and no other list in this form has the same sum

same_keyed : (ts us : List CoefficientTerm) → keyed ts ≡ keyed us → ts ≡ us
same_keyed ts us same = sym (back ts) ∙ ap (map of_key) same ∙ back us
  where
    of_key : (Mono × Mono) × ℤ → CoefficientTerm
    of_key e = record { symbols = e.0.0; names = e.0.1; number = e.1 }

    back : (ts : List CoefficientTerm) → map of_key (keyed ts) ≡ ts
    back [] = refl
    back (t ∷ ts) = ap (λ us. t ∷ us) (back ts)

pub coefficients_of_sum : (ts : List CoefficientTerm) → IsWritten ts → coefficient_terms (sum_of_parts ts) ≡ ts
unfolding sum_of_parts
coefficients_of_sum ts written =
    same_keyed _ ts (same_list by_parts int_group _ (keyed ts) (coefficients_written (sum_of_parts ts)) written
    (λ k. sym (number_at-sum (keyed (coefficient_terms (sum_of_parts ts))) k.0 k.1)
    ∙ ap (λ p. number_at p k.0 k.1) (sum_of_coefficients (sum_of_parts ts)) ∙ number_at-sum (keyed ts) k.0 k.1))
