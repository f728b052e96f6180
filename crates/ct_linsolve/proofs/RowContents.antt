-- The content of a row: the number whose divisors are the common divisors of all its coefficients. Main lemmas
-- `row_content_only`, `content_divides` and the steps of the loop of `content_of`.
use Rattle.ct_linsolve.proofs.Base.{◌≡◌, ◌↔◌, refl, ℕ, zero, suc, ◌≤◌, ◌<◌, ℤ, pos, unsigned_abs, cond, map, le-ltb, lt-ltb, List, [], ◌∷◌, ◌++◌}
use Rattle.ct_linsolve.proofs.Base.{length, sym, ◌∙◌, ap, subst, arith, Mono, monomials, unit, Polynomial, norm_of, int_group, DividesAll}
use Rattle.ct_linsolve.proofs.Base.{DividesEach, IsContentOf, content, divided, greatest_up_to}
use Rattle.std.specs.Int.{◌∣◌, IsGcd}
use Rattle.std.proofs.lemmas.List.Sums.{sum_by-cons}
use Rattle.std.proofs.lemmas.Nat.Gcd.{le_of_dvd, dvd_refl, dvd_trans, dvd-zero}
use Rattle.std.proofs.Math.Nat.{eq-zero_of_zero-dvd, eq-one_of_dvd-one, one-dvd}
use Rattle.ct_algebra.specs.Laws.Terms.{not_zero}
use Rattle.ct_algebra.specs.Terms.{IsCanonical}
use Rattle.ct_poly.proofs.Contents.{content_is, greatest_within, some_content}
use Rattle.ct_poly.proofs.WholeQuotients.{zero_abs}
use Rattle.ct_linsolve.specs.Rows.{Row, row_terms, row_content, over_number, over_content}

-- ---- joined lists

divides_both : (d : ℕ) (es fs : List (Mono × ℤ)) → DividesAll d (es ++ fs) ↔ (DividesAll d es × DividesAll d fs)
divides_both d [] fs = (λ all. (tt, all), λ both. both.1)
divides_both d (e ∷ es) fs =
    let later = divides_both d es fs in
    (λ all. ((all.0, (later.0 all.1).0), (later.0 all.1).1), λ both. (both.0.0, later.1 (both.0.1, both.1)))

-- ---- the number is the greatest divisor

-- a list whose first coefficient is not zero, or that is empty
abbrev StartsNonzero : List (Mono × ℤ) → Type 0
StartsNonzero [] = Unit {0}
StartsNonzero (e ∷ es) = 0 < unsigned_abs e.1

positive : (c : ℤ) → (c ≡ pos 0 → ⊥) → 0 < unsigned_abs c
positive c some = by (unsigned_abs c) refl
  where
    by : (n : ℕ) → unsigned_abs c ≡ n → 0 < unsigned_abs c
    by zero none = absurd (some (zero_abs c none))
    by (suc n) is = omega (arith, is)

starts : (r : Row) → StartsNonzero (row_terms r)
starts [] = tt
starts (x ∷ xs) = by x.terms x.canonical (starts xs)
  where
    by : (es : List (Mono × ℤ)) → IsCanonical monomials int_group es → StartsNonzero (row_terms xs) → StartsNonzero (es ++ row_terms xs)
    by [] canonical later = later
    by (e ∷ es) canonical later = positive e.1 (not_zero monomials int_group e.1 canonical.0)

greatest_is : (es : List (Mono × ℤ)) (g : ℕ) → StartsNonzero es → IsContentOf es g → g ≡ greatest_up_to (norm_of es) es
greatest_is [] g some is = eq-zero_of_zero-dvd ((is 0).1 tt)
greatest_is (e ∷ es) g some is =
    let all : DividesAll g (e ∷ es) = (is g).0 (dvd_refl g) in
    let bounded : g ≤ unsigned_abs e.1 = le_of_dvd some all.0 in
    greatest_within (norm_of (e ∷ es)) (e ∷ es) g is (nonzero g all.0 some) (omega (arith, bounded, sum_by-cons (λ d. unsigned_abs d.1) e es))
  where
    nonzero : (g : ℕ) → g ∣ unsigned_abs e.1 → 0 < unsigned_abs e.1 → 0 < g
    nonzero zero divides some = let none = eq-zero_of_zero-dvd divides in absurd (omega (arith, none))
    nonzero (suc g) divides some = omega arith

pub row_content_only : (r : Row) (g : ℕ) → IsContentOf (row_terms r) g → g ≡ row_content r
unfolding row_content
row_content_only r g is = greatest_is (row_terms r) g (starts r) is

pub row_content_is : (r : Row) → IsContentOf (row_terms r) (row_content r)
row_content_is r = by (some_content (row_terms r))
  where
    by : (g : ℕ) × IsContentOf (row_terms r) g → IsContentOf (row_terms r) (row_content r)
    by (g, is) = subst (IsContentOf (row_terms r)) (row_content_only r g is) is

-- ---- the loop

pub record IsGathering (r : Row) (g : ℕ) (rest : Row) : Type 0 where
  pub same : (d : ℕ) → ((d ∣ g) × DividesAll d (row_terms rest)) ↔ DividesAll d (row_terms r)

pub gathering_start : (r : Row) → IsGathering r 0 r
gathering_start r = record { same = λ d. (λ both. both.1, λ all. (dvd-zero d, all)) }

-- one more entry
pub gathered :
    {r rest more : Row} {x : Polynomial} {g c h : ℕ} → rest ≡ x ∷ more → c ≡ content x → IsGcd c g h →
    IsGathering r g rest → IsGathering r h more
gathered {r} {rest} {more} {x} {g} {c} {h} rest_is content_of common before =
    let g : IsGathering r g (x ∷ more) = subst (IsGathering r g) rest_is before in
    let is : IsContentOf x.terms c = subst (IsContentOf x.terms) (sym content_of) (content_is x) in
    record {
      same = λ d. (
        λ both. (g.same d).0 (
          dvd_trans d both.0 common.1,
          (divides_both d x.terms (row_terms more)).1 (
            (is d).0 (dvd_trans d both.0 common.0),
            both.1,
          ),
        ),
        λ all. let both = (g.same d).1 all in let parts = (divides_both d x.terms (row_terms more)).0 both.1 in (
          common.2 d
              ((is d).1 parts.0) both.0,
          parts.1,
        ),
      );
    }

pub no_row : (r : Row) → length r ≡ 0 → r ≡ []
no_row [] none = refl
no_row (x ∷ xs) none = absurd (omega (arith, none))

pub gathered_all : {r rest : Row} {g : ℕ} → length rest ≡ 0 → IsGathering r g rest → IsContentOf (row_terms r) g
gathered_all {r} {rest} {g} empty before d =
    let end : IsGathering r g [] = subst (IsGathering r g) (no_row rest empty) before in
    (λ divides. (end.same d).0 (divides, tt), λ all. ((end.same d).1 all).0)

one_divides : (es : List (Mono × ℤ)) → DividesAll 1 es
one_divides [] = tt
one_divides (e ∷ es) = (one-dvd (unsigned_abs e.1), one_divides es)

pub gathered_to_one : {r rest : Row} {g : ℕ} → g ≡ 1 → IsGathering r g rest → IsContentOf (row_terms r) 1
gathered_to_one {r} {rest} {g} one before d = (
  λ divides. (before.same d).0 (
    subst (λ n. d ∣ n) (sym one) divides,
    subst (λ n. DividesAll n (row_terms rest)) (sym (eq-one_of_dvd-one divides)) (one_divides (row_terms rest)),
  ),
  λ all. subst (λ n. d ∣ n) one ((before.same d).1 all).0,
)

-- ---- what the number divides

abbrev pub DividesRow : ℕ → Row → Type 0
DividesRow d [] = Unit {0}
DividesRow d (x ∷ xs) = DividesEach d x × DividesRow d xs

pub divides_row : (d : ℕ) (r : Row) → IsContentOf (row_terms r) d → DividesRow d r
divides_row d r is = by r ((is d).0 (dvd_refl d))
  where
    by : (r : Row) → DividesAll d (row_terms r) → DividesRow d r
    by [] all = tt
    by (x ∷ xs) all = let both = (divides_both d x.terms (row_terms xs)).0 all in (both.0, by xs both.1)

-- ---- the row over it

pub content_kept : (r : Row) (g : ℕ) → IsContentOf (row_terms r) g → g ≤ 1 → over_content r ≡ r
unfolding over_content
content_kept r g is small =
    ap (λ n. over_number n r) (sym (row_content_only r g is)) ∙ ap (λ b. cond b (map (λ x. divided unit (pos g) x) r) r) (le-ltb 1 g small)

pub content_divided : (r : Row) (g : ℕ) → IsContentOf (row_terms r) g → 1 < g → over_content r ≡ map (λ x. divided unit (pos g) x) r
unfolding over_content
content_divided r g is large =
    ap (λ n. over_number n r) (sym (row_content_only r g is)) ∙ ap (λ b. cond b (map (λ x. divided unit (pos g) x) r) r) (lt-ltb 1 g large)

-- no greatest common divisor is above what bounds both
pub gcd_within : (a b h n : ℕ) → IsGcd a b h → a ≤ n → b ≤ n → h ≤ n
gcd_within zero zero h n common first second =
    let empty : h ≡ 0 = eq-zero_of_zero-dvd (common.2 0 (dvd_refl 0) (dvd_refl 0)) in omega (arith, empty)
gcd_within zero (suc b) h n common first second =
    let some : 0 < suc b = omega arith in omega (arith, le_of_dvd some common.1, second)
gcd_within (suc a) b h n common first second =
    let some : 0 < suc a = omega arith in omega (arith, le_of_dvd some common.0, first)
