-- The proof of specs/CoefficientLaws: main lemma `coefficients_in_names`. All sides respect sums of polynomials, so each is
-- known from single terms; and a monomial is the product of its part in the names and of the rest.
use Rattle.std.specs.Prelude.{◌≡◌, ◌≢◌, refl, ℕ, zero, suc, ◌<◌, ℤ, Bool, true, false, cond, eqb, List, [], ◌∷◌, length, get_or}
use Rattle.std.specs.List.{Contains}
use Rattle.std.proofs.Common.{sym, ◌∙◌, ap, ap₂, subst, arith, eqb-true, eq-eqb}
use Rattle.ct_algebra.specs.Group.{comp_hom, IsHom}
use Rattle.ct_algebra.specs.Sums.{at-⊕}
use Rattle.ct_algebra.specs.Terms.{by_order}
use Rattle.ct_algebra.specs.Monomial.{Mono, exp, exp-unit, same_mono, ◌·◌, ·_comm, ·-unit, unit, mono_cmp, mono_same, monomials}
use Rattle.ct_algebra.specs.Names.{Name, place, place_small, name_with, same_place}
use Rattle.ct_algebra.specs.WholeNumbers.{int_group}
use Rattle.ct_algebra.specs.Polynomial.{Polynomial, coefficient, polys, plus, times}
use Rattle.ct_algebra.specs.Substitution.{P, term, agree}
use Rattle.ct_algebra.specs.FreeOf.{IsWithout, EachName}
use Rattle.ct_algebra.specs.Coefficients.{is_chosen, inside, outside, term_in, coefficient_in}
use Rattle.ct_algebra.specs.CoefficientLaws.{IsIn, CoefficientsInNames}
use Rattle.ct_algebra.proofs.MonomialLists.{cmp-other, same_or_other}
use Rattle.ct_algebra.proofs.PolynomialLawProofs.{finite_maps}
use Rattle.ct_algebra.proofs.CoefficientLaws.{exp-inside, exp-outside, inside-·, outside-·, outside-inside, outside_without, coefficient_in-term}
use Rattle.ct_algebra.proofs.CoefficientLaws.{coefficient_in_hom, coefficient_in-free, coefficient_in-sum, coefficient_in-product}

-- ---- chosen places are those of the names

pub chosen_of : (js : List Name) (i : Name) (k : ℕ) → k < length js → get_or js k i ≡ i → is_chosen js (place i) ≡ true
chosen_of [] i k small here = absurd (omega arith)
chosen_of (j ∷ js) i zero small here = ap (λ b. cond b true (is_chosen js (place i))) (eq-eqb (place i) (place j) (ap place (sym here)))
chosen_of (j ∷ js) i (suc k) small here = by (eqb (place i) (place j)) (chosen_of js i k (omega arith) here)
  where
    by : (b : Bool) → is_chosen js (place i) ≡ true → cond b true (is_chosen js (place i)) ≡ true
    by true rest = refl
    by false rest = rest

pub one_of : (js : List Name) (i : Name) → is_chosen js (place i) ≡ true → Contains js i
one_of [] i chosen = cc
one_of (j ∷ js) i chosen = by (eqb (place i) (place j)) refl chosen (one_of js i)
  where
    by :
        (b : Bool) → eqb (place i) (place j) ≡ b → cond b true (is_chosen js (place i)) ≡ true →
        (is_chosen js (place i) ≡ true → Contains js i) → Contains (j ∷ js) i
    by true same told rest = (0, omega arith, sym (same_place i j (eqb-true (place i) (place j) same)))
    by false other told rest = let there = rest told in (suc there.0, omega (arith, there.1), there.2)

-- ---- a monomial in the names, and one without them

place-name_with : (k : ℕ) → k < 6 → place (name_with k) ≡ k
place-name_with zero small = refl
place-name_with (suc zero) small = refl
place-name_with (suc (suc zero)) small = refl
place-name_with (suc (suc (suc zero))) small = refl
place-name_with (suc (suc (suc (suc zero)))) small = refl
place-name_with (suc (suc (suc (suc (suc zero))))) small = refl
place-name_with (suc (suc (suc (suc (suc (suc k)))))) small = absurd (omega arith)

module _ (js : List Name) (e : Mono) where
  not_chosen : IsIn js e → (k : ℕ) → k < 6 → is_chosen js k ≡ false → exp e k ≡ 0
  not_chosen within k small other = by (exp e k) refl
    where
      at_name : exp e k ≢ 0 → Contains js (name_with k)
      at_name some = within (name_with k) (λ none. some (ap (exp e) (sym (place-name_with k small)) ∙ none))

      by : (n : ℕ) → exp e k ≡ n → n ≡ 0
      by zero is = refl
      by (suc n) is =
          let there = at_name (λ none. cc) in
          let chosen = chosen_of js (name_with k) there.0 there.1 there.2 in
          absurd (let told : is_chosen js k ≡ true = ap (is_chosen js) (sym (place-name_with k small)) ∙ chosen in cc)

  pub inside_whole : IsIn js e → inside js e ≡ e
  inside_whole within = same_mono _ _ (λ k small. exp-inside js e k small ∙ by k small (is_chosen js k) refl)
    where
      by : (k : ℕ) → k < 6 → (b : Bool) → is_chosen js k ≡ b → cond b (exp e k) 0 ≡ exp e k
      by k small true chosen = refl
      by k small false other = sym (not_chosen within k small other)

  outside_none : IsIn js e → outside js e ≡ unit
  outside_none within =
      same_mono _ _ (λ k small. exp-outside js e k small ∙ by k small (is_chosen js k) refl ∙ sym (exp-unit k small))
    where
      by : (k : ℕ) → k < 6 → (b : Bool) → is_chosen js k ≡ b → cond b 0 (exp e k) ≡ 0
      by k small true chosen = refl
      by k small false other = not_chosen within k small other

-- the names' part of a monomial contains no other names
pub inside_within : (js : List Name) (n : Mono) → IsIn js (inside js n)
inside_within js n i some = one_of js i (by (is_chosen js (place i)) (λ none. some (exp-inside js n (place i) (place_small i) ∙ none)))
  where
    by : (b : Bool) → (cond b (exp n (place i)) 0 ≡ 0 → ⊥) → b ≡ true
    by true some = refl
    by false none = absurd (none refl)

-- ---- single terms

pub term_in-same : (js : List Name) (e n : Mono) (c : ℤ) → inside js n ≡ e → term_in js e n c ≡ term (outside js n) c
term_in-same js e n c same =
    ap (λ r. by_order r polys.zero (term (outside js n) c) polys.zero) (ap (λ k. mono_cmp k e) same ∙ mono_same e)

module _ (js : List Name) (e m : Mono) (within : IsIn js e) (without : EachName (λ j. IsWithout j m) js) where
  inside_product : inside js (e · m) ≡ e
  inside_product = ap (inside js) (·_comm e m) ∙ inside-· js m e without ∙ inside_whole js e within

  outside_product : outside js (e · m) ≡ m
  outside_product =
      ap (outside js) (·_comm e m) ∙ outside-· js m e without ∙ ap (λ k. m · k) (outside_none js e within) ∙ ·-unit m

  on_term : (n : Mono) (c : ℤ) → coefficient (coefficient_in js e (term n c)) m ≡ coefficient (term n c) (e · m)
  on_term n c = ap (λ q. coefficient q m) (coefficient_in-term js e n c) ∙ by (same_or_other (inside js n) e) (same_or_other (outside js n) m)
    where
      by : Dec (inside js n ≡ e) → Dec (outside js n ≡ m) → coefficient (term_in js e n c) m ≡ coefficient (term n c) (e · m)
      by (yes same) (yes rest) =
          let whole : n ≡ e · m = sym (outside-inside js n) ∙ ap₂ ◌·◌ rest same ∙ ·_comm m e in
          ap₂ coefficient (term_in-same js e n c same) (sym rest) ∙ finite_maps.of_a_term (outside js n) c
          ∙ sym (ap (coefficient (term n c)) (sym whole) ∙ finite_maps.of_a_term n c)
      by (yes same) (no other) =
          ap (λ q. coefficient q m) (term_in-same js e n c same) ∙ finite_maps.of_another_term (outside js n) m c other
          ∙ sym (finite_maps.of_another_term n (e · m) c (λ whole. other (ap (outside js) whole ∙ outside_product)))
      by (no other) rest =
          ap (λ q. coefficient q m) (cmp-other (inside js n) e polys.zero (term (outside js n) c) other) ∙ finite_maps.of_zero m
          ∙ sym (finite_maps.of_another_term n (e · m) c (λ whole. other (ap (inside js) whole ∙ inside_product)))

  coefficient_hom : (k : Mono) → IsHom P int_group (λ p. coefficient p k)
  coefficient_hom k = record { sums = λ p q. at-⊕ monomials int_group p q k }

  values_are : (p : Polynomial) → coefficient (coefficient_in js e p) m ≡ coefficient p (e · m)
  values_are =
      agree int_group (λ p. coefficient (coefficient_in js e p) m) (λ p. coefficient p (e · m))
      (comp_hom (λ q. coefficient q m) (coefficient_in js e) (coefficient_hom m) (coefficient_in_hom js e))
      (coefficient_hom (e · m)) on_term

none_in : (js : List Name) (e : Mono) (p : Polynomial) → ¬ IsIn js e → coefficient_in js e p ≡ polys.zero
none_in js e p others =
    agree P (coefficient_in js e) (λ q. polys.zero) (coefficient_in_hom js e) (record { sums = λ q r. sym (polys.add_zero polys.zero) })
    (λ n c. coefficient_in-term js e n c
    ∙ cmp-other (inside js n) e polys.zero (term (outside js n) c) (λ same. others (subst (IsIn js) same (inside_within js n)))) p

pub coefficients_in_names : CoefficientsInNames
unfolding plus times
coefficients_in_names = record {
  free = coefficient_in-free;
  values = λ js e m p within without. values_are js e m within without p;
  no_others = none_in;
  all = λ js m p.
      ap (coefficient p) (sym (outside-inside js m) ∙ ·_comm (outside js m) (inside js m))
      ∙ sym (values_are js (inside js m) (outside js m) (inside_within js m) (outside_without js m) p);
  sums = coefficient_in-sum;
  multiples = coefficient_in-product;
}
