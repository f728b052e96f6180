-- The greatest number that divides two is their greatest common divisor: main lemma `greatest_common_is`, which the law
-- cites. A greatest common divisor exists; it is the greatest of the common divisors.
use Rattle.ct_int.proofs.Base.{◌≡◌, ℕ, zero, suc, ◌%◌, ◌<◌, ◌≤◌, Bool, true, false, cond, eqb, ◌&&◌, subst, arith, eqb-true, ◌∣◌, IsGcd, le_of_dvd}
use Rattle.ct_int.proofs.Base.{dvd_of_mod-eq-zero, mod-eq-zero_of_dvd, same_from_IsGcd, eq-zero_of_zero-dvd, one-dvd, pos_of_ne-zero}
use Rattle.std.specs.Prelude.{refl}
use Rattle.std.proofs.lemmas.Bool.{eqb-false}
use Rattle.ct_int.proofs.GcdLaws.{gcd-exists}
use Rattle.ct_int.specs.Divisors.{common_up_to, greatest_common}

-- what is known of the greatest number up to k
record Found (k m c r : ℕ) : Type 0 where
  divides : 0 < r → (r ∣ m) × (r ∣ c)
  above : (d : ℕ) → d ≤ k → d ∣ m → d ∣ c → d ≤ r

found : (k m c : ℕ) → Found k m c (common_up_to k m c)
found zero m c = record { divides = λ some. absurd (omega arith); above = λ d small first second. small }
found (suc k) m c = by (eqb (m % suc k) 0) (eqb (c % suc k) 0) refl refl (found k m c)
  where
    past : (d : ℕ) → d ≤ suc k → (d ≡ suc k → ⊥) → d ≤ k
    past d small other = by_place d small other
      where
        by_place : (d : ℕ) → d ≤ suc k → (d ≡ suc k → ⊥) → d ≤ k
        by_place d small other = grind (arith, other)

    by :
        (s t : Bool) → eqb (m % suc k) 0 ≡ s → eqb (c % suc k) 0 ≡ t → Found k m c (common_up_to k m c) →
        Found (suc k) m c (cond (s && t) (suc k) (common_up_to k m c))
    by true true first second below = record {
      divides = λ some. (dvd_of_mod-eq-zero (suc k) (eqb-true _ 0 first), dvd_of_mod-eq-zero (suc k) (eqb-true _ 0 second));
      above = λ d small one other. small;
    }
    by true false first second below = record {
      divides = below.divides;
      above = λ d small one other. below.above d
          (past d small (λ same. eqb-false _ 0 second (mod-eq-zero_of_dvd (suc k) (subst (λ n. n ∣ c) same other)))) one other;
    }
    by false t first second below = record {
      divides = below.divides;
      above = λ d small one other. below.above d
          (past d small (λ same. eqb-false _ 0 first (mod-eq-zero_of_dvd (suc k) (subst (λ n. n ∣ m) same one)))) one other;
    }

pub greatest_common_is : (m c : ℕ) → 0 < c → IsGcd m c (greatest_common m c)
unfolding greatest_common
greatest_common_is m c some =
    let all = found c m c in
    let cofactors = gcd-exists m c in
    let g = cofactors.divisor in
    let h : IsGcd m c g = cofactors.greatest in
    let r = common_up_to c m c in
    let least : 1 ≤ r = all.above 1 some (one-dvd m) (one-dvd c) in
    let positive : 0 < g = pos_of_ne-zero (λ none. let zero_c : c ≡ 0 = eq-zero_of_zero-dvd (subst (λ n. n ∣ c) none h.1) in omega arith) in
    let low : g ≤ r = all.above g (le_of_dvd some h.1) h.0 h.1 in
    let each = all.divides least in
    let high : r ≤ g = le_of_dvd positive (h.2 r each.0 each.1) in
    let same : g ≡ r = omega arith in
    subst (IsGcd m c) same h

-- it is the number that a call finds
pub greatest_common_only : (m c g : ℕ) → 0 < c → IsGcd m c g → g ≡ greatest_common m c
greatest_common_only m c g some is = same_from_IsGcd m c g (greatest_common m c) is (greatest_common_is m c some)

pub divisor_positive : (m c g : ℕ) → 0 < c → IsGcd m c g → 0 < g
divisor_positive m c g some is =
    pos_of_ne-zero (λ none. let zero_c : c ≡ 0 = eq-zero_of_zero-dvd (subst (λ n. n ∣ c) none is.1) in omega arith)

pub divisor_small : (m c g : ℕ) → 0 < c → IsGcd m c g → g ≤ c
divisor_small m c g some is = le_of_dvd some is.1
