-- A problem says no `let` line where it has none. Main lemma `empty_definitions`, cited by `has_lets`.
use Rattle.ct_setup.proofs.Base.{◌≡◌, ◌↔◌, refl, ℕ, Bool, true, false, IsTrue, List, [], ◌∷◌, length, arith, is_empty, definitions_of}
use Rattle.ct_problem.specs.declared.problem.LetForm.{LetForm}

-- a list with an element isn't empty
some_form : (f : LetForm) (fs : List LetForm) (b : Bool) → (IsTrue b ↔ (f ∷ fs ≡ [])) → b ≡ false
some_form f fs true told = let none = told.0 refl in cc
some_form f fs false told = refl

pub empty_definitions :
    (texts : List (List ℕ)) (forms : List LetForm) → length texts ≡ length forms → (b : Bool) → (IsTrue b ↔ (forms ≡ [])) →
    b ≡ is_empty (definitions_of texts forms)
empty_definitions [] [] same b told = told.1 refl
empty_definitions [] (f ∷ fs) same b told = absurd (omega (arith, same))
empty_definitions (t ∷ ts) [] same b told = absurd (omega (arith, same))
empty_definitions (t ∷ ts) (f ∷ fs) same b told = some_form f fs b told
