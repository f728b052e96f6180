-- The content: its divisors are the common divisors of the coefficients. Main lemmas `content_is` and `content_only`, which
-- the law on contents and the loop of `content_of_terms` cite.
-- A greatest common divisor of the coefficients exists, and every common divisor divides it; so the greatest of them is it.
use Rattle.ct_poly.proofs.Base.{◌≡◌, ◌↔◌, refl, ℕ, zero, suc, ◌≤◌, ◌<◌, ◌%◌, ℤ, unsigned_abs, Bool, true, false, cond, eqb, ◌&&◌, List, [], ◌∷◌}
use Rattle.ct_poly.proofs.Base.{length, sym, ◌∙◌, ap, subst, arith, eqb-true, eq-eqb, eqb-false, ◌∣◌, IsGcd, sum_by-cons, le_of_dvd, dvd_refl}
use Rattle.ct_poly.proofs.Base.{dvd_trans, dvd-zero, dvd_of_mod-eq-zero, mod-eq-zero_of_dvd, eq-zero_of_zero-dvd, eq-one_of_dvd-one, one-dvd}
use Rattle.ct_poly.proofs.Base.{not_zero, Mono, monomials, IsCanonical, int_group, Polynomial, norm, norm_of}
use Rattle.ct_int.proofs.GcdLaws.{gcd-exists}
use Rattle.ct_poly.specs.Content.{DividesAll, IsContentOf, divides_each, greatest_up_to, content}
use Rattle.ct_poly.specs.declared.term.Term.{Term}
use Rattle.ct_poly.specs.Terms.{entries}
use Rattle.ct_poly.proofs.TermLists.{no_length}
use Rattle.ct_poly.proofs.WholeQuotients.{zero_abs}

pub some_content : (es : List (Mono × ℤ)) → (g : ℕ) × IsContentOf es g
some_content [] = (0, λ d. (λ h. tt, λ h. dvd-zero d))
some_content (e ∷ es) = more (some_content es)
  where
    more : (g : ℕ) × IsContentOf es g → (g : ℕ) × IsContentOf (e ∷ es) g
    more (g, is) =
        let both = gcd-exists (unsigned_abs e.1) g in (
          both.divisor,
          λ d. (
            λ h. (dvd_trans d h both.greatest.0, (is d).0 (dvd_trans d h both.greatest.1)),
            λ h. both.greatest.2 d h.0 ((is d).1 h.1),
          ),
        )

-- ---- the test

test_each : (d : ℕ) (es : List (Mono × ℤ)) → divides_each d es ≡ true → DividesAll d es
test_each d [] passes = tt
test_each d (e ∷ es) passes = by (eqb (unsigned_abs e.1 % d) 0) refl passes (test_each d es)
  where
    by : (b : Bool) → eqb (unsigned_abs e.1 % d) 0 ≡ b → (b && divides_each d es) ≡ true → (divides_each d es ≡ true → DividesAll d es) →
        DividesAll d (e ∷ es)
    by true first passes rest = (dvd_of_mod-eq-zero d (eqb-true _ 0 first), rest passes)
    by false first passes rest = cc

each_test : (d : ℕ) (es : List (Mono × ℤ)) → DividesAll d es → divides_each d es ≡ true
each_test d [] all = refl
each_test d (e ∷ es) all = ap (λ b. b && divides_each d es) (eq-eqb _ 0 (mod-eq-zero_of_dvd d all.0)) ∙ each_test d es all.1

-- ---- the greatest number

abbrev Below : ℕ → List (Mono × ℤ) → ℕ → Type 0
Below n es r = (d : ℕ) → d ≤ n → DividesAll d es → d ≤ r

greatest_is_above : (n : ℕ) (es : List (Mono × ℤ)) → Below n es (greatest_up_to n es)
greatest_is_above zero es = λ d small all. small
greatest_is_above (suc n) es = by (divides_each (suc n) es) refl (greatest_is_above n es)
  where
    by : (b : Bool) → divides_each (suc n) es ≡ b → Below n es (greatest_up_to n es) → Below (suc n) es (cond b (suc n) (greatest_up_to n es))
    by true test lower d small all = small
    by false test lower d small all = last (eqb d (suc n)) refl
      where
        last : (b : Bool) → eqb d (suc n) ≡ b → d ≤ greatest_up_to n es
        last true same =
            let passes : divides_each (suc n) es ≡ true = each_test (suc n) es (subst (λ k. DividesAll k es) (eqb-true d (suc n) same) all) in cc
        last false other = lower d (omega (arith, small, eqb-false d (suc n) other)) all

greatest_divides : (n : ℕ) (es : List (Mono × ℤ)) → 0 < greatest_up_to n es → DividesAll (greatest_up_to n es) es
greatest_divides zero es some = absurd (omega arith)
greatest_divides (suc n) es some = by (divides_each (suc n) es) refl some (greatest_divides n es)
  where
    by : (b : Bool) → divides_each (suc n) es ≡ b → 0 < cond b (suc n) (greatest_up_to n es)
        → (0 < greatest_up_to n es → DividesAll (greatest_up_to n es) es) → DividesAll (cond b (suc n) (greatest_up_to n es)) es
    by true test some lower = test_each (suc n) es test
    by false test some lower = lower some

-- ---- it is the one whose divisors are the common ones

-- a bound that is large enough makes no difference
pub greatest_within : (n : ℕ) (es : List (Mono × ℤ)) (g : ℕ) → IsContentOf es g → 0 < g → g ≤ n → g ≡ greatest_up_to n es
greatest_within n es g is some within =
    let above : g ≤ greatest_up_to n es = greatest_is_above n es g within ((is g).0 (dvd_refl g)) in
    let below : greatest_up_to n es ∣ g = (is _).1 (greatest_divides n es (omega (arith, above, some))) in
    omega (arith, above, le_of_dvd some below)

greatest_is : (es : List (Mono × ℤ)) (g : ℕ) → IsCanonical monomials int_group es → IsContentOf es g → g ≡ greatest_up_to (norm_of es) es
greatest_is [] g canonical is = eq-zero_of_zero-dvd ((is 0).1 tt)
greatest_is (e ∷ es) g canonical is =
    let all : DividesAll g (e ∷ es) = (is g).0 (dvd_refl g) in
    let some : 0 < unsigned_abs e.1 = positive in
    let bounded : g ≤ unsigned_abs e.1 = le_of_dvd some all.0 in
    greatest_within (norm_of (e ∷ es)) (e ∷ es) g is (nonzero g all.0 some) (omega (arith, bounded, sum_by-cons (λ d. unsigned_abs d.1) e es))
  where
    positive : 0 < unsigned_abs e.1
    positive = by (unsigned_abs e.1) refl
      where
        by : (n : ℕ) → unsigned_abs e.1 ≡ n → 0 < unsigned_abs e.1
        by zero none = absurd (not_zero monomials int_group e.1 canonical.0 (zero_abs e.1 none))
        by (suc n) some = omega (arith, some)

    nonzero : (g : ℕ) → g ∣ unsigned_abs e.1 → 0 < unsigned_abs e.1 → 0 < g
    nonzero zero divides some = let none = eq-zero_of_zero-dvd divides in absurd (omega (arith, none))
    nonzero (suc g) divides some = omega arith

pub content_only : (p : Polynomial) (g : ℕ) → IsContentOf p.terms g → g ≡ content p
unfolding content norm
content_only p g is = greatest_is p.terms g p.canonical is

pub content_is : (p : Polynomial) → IsContentOf p.terms (content p)
content_is p = by (some_content p.terms)
  where
    by : (g : ℕ) × IsContentOf p.terms g → IsContentOf p.terms (content p)
    by (g, is) = subst (IsContentOf p.terms) (content_only p g is) is

pub content_small : (p : Polynomial) → content p ≤ norm p
unfolding content
content_small p = up_to (norm p) p.terms
  where
    up_to : (n : ℕ) (es : List (Mono × ℤ)) → greatest_up_to n es ≤ n
    up_to zero es = omega arith
    up_to (suc n) es = by (divides_each (suc n) es) (up_to n es)
      where
        by : (b : Bool) → greatest_up_to n es ≤ n → cond b (suc n) (greatest_up_to n es) ≤ suc n
        by true lower = omega arith
        by false lower = omega arith

-- ---- the loop

pub record IsGathering (ts : List Term) (g : ℕ) (rest : List Term) : Type 0 where
  pub same : (d : ℕ) → ((d ∣ g) × DividesAll d (entries rest)) ↔ DividesAll d (entries ts)

pub gathering_start : (ts : List Term) → IsGathering ts 0 ts
gathering_start ts = record { same = λ d. (λ both. both.1, λ all. (dvd-zero d, all)) }

-- one more coefficient
pub gathered :
    {ts rest more : List Term} {t : Term} {g a h : ℕ} → rest ≡ t ∷ more → a ≡ unsigned_abs t.coef → IsGcd a g h →
    IsGathering ts g rest → IsGathering ts h more
gathered {ts} {rest} {more} {t} {g} {a} {h} rest_is size common before =
    let g : IsGathering ts g (t ∷ more) = subst (IsGathering ts g) rest_is before in
    record {
      same = λ d. (
        λ both. (g.same d).0 (dvd_trans d both.0 common.1, (subst (λ n. d ∣ n) size (dvd_trans d both.0 common.0), both.1)),
        λ all. let both = (g.same d).1 all in (common.2 d (subst (λ n. d ∣ n) (sym size) both.1.0) both.0, both.1.1),
      );
    }

pub gathered_all : {ts rest : List Term} {g : ℕ} → length rest ≡ 0 → IsGathering ts g rest → IsContentOf (entries ts) g
gathered_all {ts} {rest} {g} empty before d =
    let end : IsGathering ts g [] = subst (IsGathering ts g) (no_length rest empty) before in
    (λ divides. (end.same d).0 (divides, tt), λ all. ((end.same d).1 all).0)

-- once no divisor but 1 is left, the rest of the coefficients changes nothing
pub gathered_to_one : {ts rest : List Term} {g : ℕ} → g ≡ 1 → IsGathering ts g rest → IsContentOf (entries ts) 1
gathered_to_one {ts} {rest} {g} one before d = (
  λ divides. (before.same d).0 (
    subst (λ n. d ∣ n) (sym one) divides,
    subst (λ n. DividesAll n (entries rest)) (sym (eq-one_of_dvd-one divides)) (one_divides rest),
  ),
  λ all. subst (λ n. d ∣ n) one ((before.same d).1 all).0,
)
  where
    one_divides : (ts : List Term) → DividesAll 1 (entries ts)
    one_divides [] = tt
    one_divides (t ∷ ts) = (one-dvd (unsigned_abs t.coef), one_divides ts)
