-- Common divisors of a number and the coefficients of an operator, and its quotients by numbers that divide all of these.
-- Main lemmas `common_is` and `common_only` (the greatest common divisor is the one whose divisors are the common ones), the
-- steps of the loop (`gathers_more` ..), and `over_fits`, `over_listed`: the terms over a number are those of the quotient.
use Rattle.ct_ore.proofs.Base.{◌≡◌, ◌↔◌, refl, ℕ, ◌<◌, ◌≤◌, ℤ, pos, nat_abs, true, false, cond, T, List, [], ◌∷◌, ◌++◌, map, length, length-append}
use Rattle.ct_ore.proofs.Base.{sym, ◌∙◌, ap, ap₂, subst, arith, ◌∣◌, IsGcd, sum_by-append, le_of_dvd, dvd_refl, dvd_trans, eq-one_of_dvd-one}
use Rattle.ct_ore.proofs.Base.{eq-zero_of_zero-dvd, pos_of_ne-zero, one-dvd, Mono, monomials, unit, Polynomial, polys, norm_of, has_none, AllBelow}
use Rattle.ct_ore.proofs.Base.{IsCanonical, int_group, Operator, operator_of, most_terms, largest_norm, DividesAll, DividesEach, IsContentOf, content}
use Rattle.ct_ore.proofs.Base.{divided, each_divides, divided_by_one}
use Rattle.ct_poly.proofs.Contents.{content_is, greatest_within, some_content}
use Rattle.ct_poly.proofs.DividedTerms.{quotients, divided_terms, length-quotients, size-quotients}
use Rattle.ct_ore.specs.declared.coefficient_term.CoefficientTerm.{CoefficientTerm}
use Rattle.ct_ore.specs.declared.op.OpTerm.{OpTerm}
use Rattle.ct_ore.specs.Terms.{op_entries}
use Rattle.ct_ore.specs.CoefficientTerms.{size_of, row_of, all_terms, coefficient_terms}
use Rattle.ct_ore.specs.Measures.{term_count, term_norm}
use Rattle.ct_ore.specs.Lists.{Fits}
use Rattle.ct_ore.specs.Wholes.{DividesTerms, DividesOperator, IsCommonDivisor, coefficients_of, common_divisor, entry_over, over_whole}
use Rattle.ct_ore.proofs.OperatorMeasures.{count-coefficient_terms, norm-coefficient_terms, length-row, size-row}
use Rattle.ct_ore.proofs.WrittenForm.{coefficients_written}
use Rattle.ct_ore.proofs.WrittenOperators.{terms-operator_of}
use Rattle.ct_algebra.proofs.OperatorLawProofs as operator_laws

-- ---- the greatest common divisor

all_append : (d : ℕ) (es fs : List (Mono × ℤ)) → DividesAll d es → DividesAll d fs → DividesAll d (es ++ fs)
all_append d [] fs one other = other
all_append d (e ∷ es) fs one other = (one.0, all_append d es fs one.1 other)

all_parts : (d : ℕ) (es fs : List (Mono × ℤ)) → DividesAll d (es ++ fs) → DividesAll d es × DividesAll d fs
all_parts d [] fs all = (tt, all)
all_parts d (e ∷ es) fs all = let parts = all_parts d es fs all.1 in ((all.0, parts.0), parts.1)

into_list : (d : ℕ) (es : List (Mono × Polynomial)) → DividesTerms d es → DividesAll d (coefficients_of es)
into_list d [] all = tt
into_list d (e ∷ es) all = all_append d e.1.terms (coefficients_of es) all.0 (into_list d es all.1)

from_list : (d : ℕ) (es : List (Mono × Polynomial)) → DividesAll d (coefficients_of es) → DividesTerms d es
from_list d [] all = tt
from_list d (e ∷ es) all = let parts = all_parts d e.1.terms (coefficients_of es) all in (parts.0, from_list d es parts.1)

abbrev with_number : Operator → ℕ → List (Mono × ℤ)
with_number p n = (unit, pos n) ∷ coefficients_of p.terms

pub divisor_some : (n g : ℕ) → 0 < n → g ∣ n → 0 < g
divisor_some n g some divides =
    pos_of_ne-zero (λ none. let zero_n : n ≡ 0 = eq-zero_of_zero-dvd (subst (λ k. k ∣ n) none divides) in omega (arith, zero_n, some))

module _ (p : Operator) (n : ℕ) (some : 0 < n) where
  listed : (g : ℕ) → IsContentOf (with_number p n) g → g ≡ common_divisor p n
  unfolding common_divisor
  listed g is =
      let divides : g ∣ n = ((is g).0 (dvd_refl g)).0 in
      greatest_within n (with_number p n) g is (divisor_some n g some divides) (le_of_dvd some divides)

  pub common_only : (g : ℕ) → IsCommonDivisor p.terms n g → g ≡ common_divisor p n
  common_only g is =
      listed g (λ d. (
        λ divides. let both = (is d).0 divides in (both.0, into_list d p.terms both.1),
        λ all. (is d).1 (all.0, from_list d p.terms all.1),
      ))

  pub common_is : IsCommonDivisor p.terms n (common_divisor p n)
  common_is = by (some_content (with_number p n))
    where
      by : (g : ℕ) × IsContentOf (with_number p n) g → IsCommonDivisor p.terms n (common_divisor p n)
      by (g, is) = subst (IsCommonDivisor p.terms n) (listed g is)
          (λ d. (λ divides. let all = (is d).0 divides in (all.0, from_list d p.terms all.1), λ both. (is d).1 (both.0, into_list d p.terms both.1)))

-- ---- the loop

-- what divides the number so far and the coefficients that are left divides all
pub record Gathers (ts : List OpTerm) (n g : ℕ) (rest : List OpTerm) : Type 0 where
  pub same : (d : ℕ) → ((d ∣ g) × DividesTerms d (op_entries rest)) ↔ ((d ∣ n) × DividesTerms d (op_entries ts))

pub gathers_start : (ts : List OpTerm) (n : ℕ) → Gathers ts n n ts
gathers_start ts n = record { same = λ d. (λ both. both, λ both. both) }

pub gathers_more :
    {ts rest more : List OpTerm} {t : OpTerm} {n g a h : ℕ} → rest ≡ t ∷ more → a ≡ content t.coef → IsGcd a g h →
    Gathers ts n g rest → Gathers ts n h more
gathers_more {ts} {rest} {more} {t} {n} {g} {a} {h} rest_is size common before =
    let here : Gathers ts n g (t ∷ more) = subst (Gathers ts n g) rest_is before in
    record {
      same = λ d. (
        λ both. (here.same d).0 (
          dvd_trans d both.0 common.1,
          ((content_is t.coef d).0 (subst (λ k. d ∣ k) size (dvd_trans d both.0 common.0)), both.1),
        ),
        λ all. let both = (here.same d).1 all in (common.2 d (subst (λ k. d ∣ k) (sym size) ((content_is t.coef d).1 both.1.0)) both.0, both.1.1),
      );
    }

one_divides : (es : List (Mono × ℤ)) → DividesAll 1 es
one_divides [] = tt
one_divides (e ∷ es) = (one-dvd _, one_divides es)

one_divides_terms : (es : List (Mono × Polynomial)) → DividesTerms 1 es
one_divides_terms [] = tt
one_divides_terms (e ∷ es) = (one_divides e.1.terms, one_divides_terms es)

-- once no divisor but 1 is left, the coefficients that are left change nothing
pub gathers_to_one : {ts rest : List OpTerm} {n g : ℕ} → g ≡ 1 → Gathers ts n g rest → IsCommonDivisor (op_entries ts) n 1
gathers_to_one {ts} {rest} {n} {g} one before d = (
  λ divides. (before.same d).0 (
    subst (λ k. d ∣ k) (sym one) divides,
    subst (λ k. DividesTerms k (op_entries rest)) (sym (eq-one_of_dvd-one divides)) (one_divides_terms (op_entries rest)),
  ),
  λ both. subst (λ k. d ∣ k) one ((before.same d).1 both).0,
)

-- ---- quotients

over_one_list : (es : List (Mono × Polynomial)) → map (entry_over 1) es ≡ es
over_one_list [] = refl
over_one_list (e ∷ es) = ap₂ (λ c fs. (e.0, c) ∷ fs) (divided_by_one e.1) (over_one_list es)

pub over_one : (p : Operator) → over_whole 1 p ≡ p
unfolding over_whole
over_one p = ap operator_of (over_one_list p.terms) ∙ operator_laws.sums_of_terms.of_its_own p

pub quotient_terms : (d : ℕ) (c : Polynomial) → DividesEach d c → (divided unit (pos d) c).terms ≡ quotients unit (pos d) c.terms
quotient_terms d c all = divided_terms unit (pos d) c (each_divides d c.terms all)

some_left : (d : ℕ) (c : Polynomial) → DividesEach d c → T (cond (has_none monomials int_group c.terms) false true) →
    T (cond (has_none monomials int_group (divided unit (pos d) c).terms) false true)
some_left d c all some = subst (λ es. T (cond (has_none monomials int_group es) false true)) (sym (quotient_terms d c all)) (by c.terms some)
  where
    by : (es : List (Mono × ℤ)) → T (cond (has_none monomials int_group es) false true) →
        T (cond (has_none monomials int_group (quotients unit (pos d) es)) false true)
    by [] none = none
    by (e ∷ es) some = tt

below_over : (d : ℕ) (m : Mono) (es : List (Mono × Polynomial)) → AllBelow monomials polys.group m es →
    AllBelow monomials polys.group m (map (entry_over d) es)
below_over d m [] below = tt
below_over d m (e ∷ es) below = (below.0, below_over d m es below.1)

canonical_over : (d : ℕ) (es : List (Mono × Polynomial)) → DividesTerms d es → IsCanonical monomials polys.group es →
    IsCanonical monomials polys.group (map (entry_over d) es)
canonical_over d [] all canonical = tt
canonical_over d (e ∷ es) all canonical =
    (some_left d e.1 all.0 canonical.0, below_over d e.0 es canonical.1, canonical_over d es all.1 canonical.2)

pub over_terms : (d : ℕ) (p : Operator) → DividesOperator d p → (over_whole d p).terms ≡ map (entry_over d) p.terms
unfolding over_whole
over_terms d p all = terms-operator_of (map (entry_over d) p.terms) (canonical_over d p.terms all p.canonical)

pub over_listed :
    (d : ℕ) (p : Operator) (ts us : List OpTerm) → DividesOperator d p → op_entries ts ≡ p.terms →
    op_entries us ≡ map (entry_over d) (op_entries ts) → op_entries us ≡ (over_whole d p).terms
over_listed d p ts us all same made = made ∙ ap (λ es. map (entry_over d) es) same ∙ sym (over_terms d p all)

length_over : (d : ℕ) (es : List (Mono × Polynomial)) → DividesTerms d es → length (all_terms (map (entry_over d) es)) ≡ length (all_terms es)
length_over d [] all = refl
length_over d (e ∷ es) all =
    omega (
      arith,
      length-append (row_of e.0 (divided unit (pos d) e.1).terms) (all_terms (map (entry_over d) es)),
      length-append (row_of e.0 e.1.terms) (all_terms es),
      length-row e.0 (divided unit (pos d) e.1).terms,
      length-row e.0 e.1.terms,
      ap (λ (fs : List (Mono × ℤ)). length fs) (quotient_terms d e.1 all.0),
      length-quotients unit (pos d) e.1.terms,
      length_over d es all.1,
    )

abbrev size : CoefficientTerm → ℕ
size t = nat_abs t.number

size_over : (d : ℕ) (es : List (Mono × Polynomial)) → DividesTerms d es → size_of (all_terms (map (entry_over d) es)) ≤ size_of (all_terms es)
size_over d [] all = omega arith
size_over d (e ∷ es) all =
    omega (
      arith,
      sum_by-append size (row_of e.0 (divided unit (pos d) e.1).terms) (all_terms (map (entry_over d) es)),
      sum_by-append size (row_of e.0 e.1.terms) (all_terms es),
      size-row e.0 (divided unit (pos d) e.1).terms,
      size-row e.0 e.1.terms,
      ap norm_of (quotient_terms d e.1 all.0),
      size-quotients unit (pos d) e.1.terms e.1.canonical (each_divides d e.1.terms all.0),
      size_over d es all.1,
    )

pub over_fits : (d : ℕ) (p : Operator) → DividesOperator d p → term_count p ≤ most_terms → term_norm p ≤ largest_norm →
    Fits (coefficient_terms (over_whole d p))
unfolding coefficient_terms
over_fits d p all few small =
    let terms = over_terms d p all in
    record {
      written = coefficients_written (over_whole d p);
      few = omega (arith, few, count-coefficient_terms p, ap (λ es. length (all_terms es)) terms, length_over d p.terms all);
      small = omega (arith, small, norm-coefficient_terms p, ap (λ es. size_of (all_terms es)) terms, size_over d p.terms all);
    }
