-- The order of polynomials, by which factors are sorted (this project's own).
--     term_cmp e d     terms: by the monomial, then by the coefficient
--     poly_cmp p q     by the lists of terms: the first terms that differ decide, and a list that begins another is smaller
-- It is a total order in which equal means the same: laws `poly_cmp_total` and `poly_tied`. Cited by `Poly::cmp`.
use Rattle.std.specs.Prelude.{◌≡◌, ℤ, refl}
use Rattle.std.proofs.Common.{Ordering, Less, Equal, Greater, ap₂}
use Rattle.std.specs.Cmp.{IsTotalOrder}
use Rattle.std.specs.Cmp.Lexicographic.{slice_cmp}
use Rattle.std.specs.FinMap.{IsAntisymmetric, slice_cmp-IsAntisymmetric, int_cmp-IsAntisymmetric}
use Rattle.std.specs.Ordering.{ordering_then, int_cmp}
use Rattle.std.proofs.lemmas.Cmp.{then_total, on_total, lists_total, int_cmp_total}
use Rattle.ct_algebra.specs.Monomial.{Mono, mono_cmp, mono_cmp_total, mono_tied, monomials}
use Rattle.ct_algebra.specs.Sums.{same_terms}
use Rattle.ct_algebra.specs.WholeNumbers.{int_group}
use Rattle.ct_algebra.specs.Polynomial.{Polynomial}

abbrev pub term_cmp : Mono × ℤ → Mono × ℤ → Ordering
term_cmp e d = ordering_then (mono_cmp e.0 d.0) (int_cmp e.1 d.1)

unfoldable pub poly_cmp : Polynomial → Polynomial → Ordering
poly_cmp p q = slice_cmp term_cmp p.terms q.terms

-- ---- laws

term_cmp_total : IsTotalOrder term_cmp
term_cmp_total = then_total (on_total (λ e. e.0) mono_cmp_total) (on_total (λ e. e.1) int_cmp_total)

terms_cmp_total : IsTotalOrder (slice_cmp term_cmp)
terms_cmp_total = lists_total term_cmp_total

pub poly_cmp_total : IsTotalOrder poly_cmp
unfolding poly_cmp
poly_cmp_total = record {
  antisymm = λ p q. terms_cmp_total.antisymm p.terms q.terms;
  trans = λ p q r. terms_cmp_total.trans p.terms q.terms r.terms;
  congr = λ p q r. terms_cmp_total.congr p.terms q.terms r.terms;
}

term_tied : IsAntisymmetric term_cmp
term_tied e d tied = by (mono_cmp e.0 d.0) (int_cmp e.1 d.1) (mono_tied e.0 d.0) (int_cmp-IsAntisymmetric e.1 d.1) tied
  where
    by : (r s : Ordering) → (r ≡ Equal → e.0 ≡ d.0) → (s ≡ Equal → e.1 ≡ d.1) → ordering_then r s ≡ Equal → e ≡ d
    by Less s first second tied = cc
    by Equal s first second tied = ap₂ (λ m c. (m, c)) (first refl) (second tied)
    by Greater s first second tied = cc

pub poly_tied : (p q : Polynomial) → poly_cmp p q ≡ Equal → p ≡ q
unfolding poly_cmp
poly_tied p q tied = same_terms monomials int_group p q (slice_cmp-IsAntisymmetric term_tied p.terms q.terms tied)
