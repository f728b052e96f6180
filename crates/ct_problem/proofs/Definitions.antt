-- Texts and forms of `let` lines, side by side.
use Rattle.ct_problem.proofs.Base.{◌≡◌, ℕ, suc, List, [], ◌∷◌, ◌++◌, length, map, refl, ap, arith, LetForm, Definition, with_definitions, Names}
use Rattle.ct_problem.proofs.Base.{definitions_of}

-- one more of both
pub definitions_of-more : (texts : List (List ℕ)) (forms : List LetForm) (text : List ℕ) (form : LetForm) → length texts ≡ length forms
    → definitions_of (texts ++ text ∷ []) (forms ++ form ∷ []) ≡ definitions_of texts forms ++ record { text = text; form = form } ∷ []
definitions_of-more [] [] text form e = refl
definitions_of-more [] (f ∷ forms) text form e = absurd (omega (arith, e))
definitions_of-more (t ∷ texts) [] text form e = absurd (omega (arith, e))
definitions_of-more (t ∷ texts) (f ∷ forms) text form e =
    let same : length texts ≡ length forms = omega (arith, e) in
    ap (λ (ds : List Definition). record { text = t; form = f } ∷ ds) (definitions_of-more texts forms text form same)

texts_of : (texts : List (List ℕ)) (forms : List LetForm) → length texts ≡ length forms → map (λ d. d.text) (definitions_of texts forms) ≡ texts
texts_of [] [] e = refl
texts_of [] (f ∷ forms) e = absurd (omega (arith, e))
texts_of (t ∷ texts) [] e = absurd (omega (arith, e))
texts_of (t ∷ texts) (f ∷ forms) e =
    let same : length texts ≡ length forms = omega (arith, e) in
    ap (λ (ts : List (List ℕ)). t ∷ ts) (texts_of texts forms same)

pub forms_of : (texts : List (List ℕ)) (forms : List LetForm) → length texts ≡ length forms → map (λ d. d.form) (definitions_of texts forms) ≡ forms
forms_of [] [] e = refl
forms_of [] (f ∷ forms) e = absurd (omega (arith, e))
forms_of (t ∷ texts) [] e = absurd (omega (arith, e))
forms_of (t ∷ texts) (f ∷ forms) e =
    let same : length texts ≡ length forms = omega (arith, e) in
    ap (λ (fs : List LetForm). f ∷ fs) (forms_of texts forms same)

pub length-definitions_of : (texts : List (List ℕ)) (forms : List LetForm) → length texts ≡ length forms →
    length (definitions_of texts forms) ≡ length forms
length-definitions_of [] [] e = refl
length-definitions_of [] (f ∷ forms) e = absurd (omega (arith, e))
length-definitions_of (t ∷ texts) [] e = absurd (omega (arith, e))
length-definitions_of (t ∷ texts) (f ∷ forms) e =
    let same : length texts ≡ length forms = omega (arith, e) in
    ap suc (length-definitions_of texts forms same)

-- the names that stand behind the `let` lines
pub definitions-named : (names : Names) (forms : List LetForm) → length names.lets ≡ length forms →
    with_definitions names.variables (definitions_of names.lets forms) ≡ names
definitions-named names forms e = ap (λ (texts : List (List ℕ)). record { variables = names.variables; lets = texts }) (texts_of names.lets forms e)
