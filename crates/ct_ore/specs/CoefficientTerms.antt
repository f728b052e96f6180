-- Lists of coefficient terms: operators as sums of whole numbers, each before powers of names and of symbols.
--     keyed ts             the terms as pairs of a key (symbols, then names) and a number
--     by_parts             the order of the keys: by the symbols, then by the names
--     sum_of_parts ts      the operator that a list adds up to
--     IsWritten ts         keys fall, and no number is zero
--     size_of ts           the sum of the absolute values of the numbers
--     coefficient_terms p  the terms of all coefficients of an operator, in written form
-- An operator has one such list.
use Rattle.std.specs.Prelude.{ℕ, ℤ, nat_abs, List, map, flat_map, sum_by}
use Rattle.std.proofs.Common.{sym, ◌∙◌, ap, Ordering, Less, Equal, Greater, ◌≡◌, refl}
use Rattle.std.specs.Ordering.{ordering_then, ordering_reverse, then_cmp, on}
use Rattle.std.specs.Cmp.{IsTotalOrder, then_total, on_total, tied_itself}
use Rattle.ct_algebra.specs.Terms.{Keys, sum_over, IsCanonical}
use Rattle.ct_algebra.specs.WholeNumbers.{int_group}
use Rattle.ct_algebra.specs.Monomial.{Mono, mono_set, mono_cmp, mono_tied, mono_cmp_total}
use Rattle.ct_algebra.specs.Polynomial.{Polynomial}
use Rattle.ct_algebra.specs.Substitution.{term}
use Rattle.ct_algebra.specs.Operators.{Operator, operator_group, term_of}
use Rattle.ct_ore.specs.declared.coefficient_term.CoefficientTerm.{CoefficientTerm}

-- ---- keys

pub pair_cmp : Mono × Mono → Mono × Mono → Ordering
pair_cmp = then_cmp (on (λ k. k.0) mono_cmp) (on (λ k. k.1) mono_cmp)

pub pair_cmp_is : (x y : Mono × Mono) → pair_cmp x y ≡ ordering_then (mono_cmp x.0 y.0) (mono_cmp x.1 y.1)
unfolding pair_cmp
pair_cmp_is x y = refl

pub pair_cmp_total : IsTotalOrder pair_cmp
unfolding pair_cmp
pair_cmp_total =
    then_total (on_total {K = Mono × Mono} (λ k. k.0) mono_cmp_total) (on_total {K = Mono × Mono} (λ k. k.1) mono_cmp_total)

pub pair_tied : (x y : Mono × Mono) → pair_cmp x y ≡ Equal → x ≡ y
pair_tied x y e = by (mono_cmp x.0 y.0) refl (sym (pair_cmp_is x y) ∙ e)
  where
    by : (r : Ordering) → mono_cmp x.0 y.0 ≡ r → ordering_then r (mono_cmp x.1 y.1) ≡ Equal → x ≡ y
    by Less p q = cc
    by Equal p q = λ i. (mono_tied x.0 y.0 p i, mono_tied x.1 y.1 q i)
    by Greater p q = cc

pub pair_set : IsSet (Mono × Mono)
pair_set = hlevel mono_set

pub pair_same : (x : Mono × Mono) → pair_cmp x x ≡ Equal
pair_same x = tied_itself pair_cmp_total x

pub pair_turned : (x y : Mono × Mono) → pair_cmp x y ≡ Less → pair_cmp y x ≡ Greater
pair_turned x y e = pair_cmp_total.antisymm y x ∙ ap ordering_reverse e

pub pair_turned_back : (x y : Mono × Mono) → pair_cmp x y ≡ Greater → pair_cmp y x ≡ Less
pair_turned_back x y e = pair_cmp_total.antisymm y x ∙ ap ordering_reverse e

abbrev pub by_parts : Keys (Mono × Mono)
by_parts = record {
  key_set = pair_set;
  cmp = pair_cmp;
  same = pair_same;
  tied = pair_tied;
  turned = pair_turned;
  turned_back = pair_turned_back;
  trans = pair_cmp_total.trans;
}

-- ---- lists

abbrev pub key : CoefficientTerm → Mono × Mono
key t = (t.symbols, t.names)

abbrev pub keyed : List CoefficientTerm → List ((Mono × Mono) × ℤ)
keyed ts = map (λ t. ((t.symbols, t.names), t.number)) ts

abbrev pub part : Mono × Mono → ℤ → Operator
part k n = term_of k.0 (term k.1 n)

unfoldable pub sum_of_parts : List CoefficientTerm → Operator
sum_of_parts ts = sum_over operator_group part (keyed ts)

abbrev pub IsWritten : List CoefficientTerm → Type 0
IsWritten ts = IsCanonical by_parts int_group (keyed ts)

abbrev pub size_of : List CoefficientTerm → ℕ
size_of ts = sum_by (λ t. nat_abs t.number) ts

-- ---- the list of an operator

-- the terms of a coefficient, with the symbols m that it stands before
abbrev pub row_of : Mono → List (Mono × ℤ) → List CoefficientTerm
row_of m es = map (λ e. record { symbols = m; names = e.0; number = e.1 }) es

abbrev pub all_terms : List (Mono × Polynomial) → List CoefficientTerm
all_terms es = flat_map (λ e. row_of e.0 e.1.terms) es

unfoldable pub coefficient_terms : Operator → List CoefficientTerm
coefficient_terms p = all_terms p.terms
