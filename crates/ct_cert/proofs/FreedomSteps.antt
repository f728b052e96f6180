-- The loop that looks for a name, one name further. Main lemmas `name_found`, `coefficient_found`, `names_go_on`. Cited by
-- `term_is_free`.
use Rattle.ct_cert.proofs.Base.{◌≡◌, ◌≢◌, refl, Bool, true, false, ◌&&◌, ◌↔◌, List, [], ◌∷◌, ℤ, Decides, sym, ◌∙◌, ap, eq-eqb, eqb-true, EachTerm}
use Rattle.ct_cert.proofs.Base.{Mono, exp, Name, place, name_with, Polynomial, place-name_with, Part}
use Rattle.ct_algebra.specs.FreeOf.{IsFreeOf}
use Rattle.ct_cert.specs.Certificates.{names_of, IsSmall}
use Rattle.ct_cert.specs.Freedom.{each_passes, lacks, polynomial_lacks, term_lacks}

pub both_pass : (a b : Bool) → a ≡ true → b ≡ true → (a && b) ≡ true
both_pass true b left right = right
both_pass false b left right = left

pub first_pass : (a b : Bool) → (a && b) ≡ true → a ≡ true
first_pass true b pass = refl
first_pass false b pass = pass

pub second_pass : (a b : Bool) → (a && b) ≡ true → b ≡ true
second_pass true b pass = pass
second_pass false b pass = cc

-- the test of a polynomial decides that it is free of the name
lacks_each : (j : Name) (es : List (Mono × ℤ)) → Decides (each_passes (λ (e : Mono × ℤ). lacks j e.0) es) (EachTerm (λ m c. exp m (place j) ≡ 0) es)
lacks_each j [] = (λ _. tt, λ _. refl)
lacks_each j (e ∷ es) =
    let rest = lacks_each j es in (
      λ pass. (eqb-true (exp e.0 (place j)) 0 (first_pass _ _ pass), rest.0 (second_pass _ _ pass)),
      λ free. both_pass _ _ (eq-eqb (exp e.0 (place j)) 0 free.0) (rest.1 free.1),
    )

pub polynomial_lacks_decides : (j : Name) (p : Polynomial) → Decides (polynomial_lacks j p) (IsFreeOf j p)
polynomial_lacks_decides j p = lacks_each j p.terms

is_false : (b : Bool) → (b ≡ true → ⊥) → false ≡ b
is_false true never = absurd (never refl)
is_false false never = refl

module _ (m : Mono) (c : Polynomial) (p : Part) (ps rest : List Part) (whole : rest ≡ p ∷ ps) (small : IsSmall p) where
  named : Bool
  named = lacks (name_with p.name) m && polynomial_lacks (name_with p.name) c

  opened : term_lacks (names_of rest) m c ≡ (named && term_lacks (names_of ps) m c)
  unfolding named
  opened = ap (λ ps. term_lacks (names_of ps) m c) whole

  not_named : {asked : Bool} → (named ≡ true → ⊥) → term_lacks (names_of rest) m c ≡ asked → false ≡ asked
  not_named never left = is_false _ (λ pass. never (first_pass _ _ pass)) ∙ sym opened ∙ left

  pub name_found : {asked : Bool} → exp m p.name ≢ 0 → term_lacks (names_of rest) m c ≡ asked → false ≡ asked
  unfolding named
  name_found here = not_named (λ pass. here (ap (exp m) (sym (place-name_with p.name small)) ∙ eqb-true _ 0 (first_pass _ _ pass)))

  pub coefficient_found :
      {asked : Bool} (r : Bool) → (r ≡ false) ↔ IsFreeOf (name_with p.name) c → r ≡ true → term_lacks (names_of rest) m c ≡ asked → false ≡ asked
  unfolding named
  coefficient_found r told found =
      not_named (λ pass. let free = told.1 ((polynomial_lacks_decides (name_with p.name) c).0 (second_pass _ _ pass)) in
      true_false (sym found ∙ free))
    where
      true_false : true ≡ false → ⊥
      true_false never = cc

  pub names_go_on :
      {asked : Bool} (r : Bool) → (r ≡ false) ↔ IsFreeOf (name_with p.name) c → exp m p.name ≡ 0 → r ≡ false →
      term_lacks (names_of rest) m c ≡ asked → term_lacks (names_of ps) m c ≡ asked
  unfolding named
  names_go_on r told none free left =
      ap (λ b. b && term_lacks (names_of ps) m c)
      (sym (both_pass _ _ (eq-eqb _ 0 (ap (exp m) (place-name_with p.name small) ∙ none))
      ((polynomial_lacks_decides (name_with p.name) c).1 (told.0 free))))
      ∙ sym opened ∙ left
