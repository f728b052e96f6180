-- The texts of names that differ, as a table takes them one after the other.
--     different_before     the text of a name stands nowhere among those before it
--     all_texts            the texts of declared names are all texts, where no `let` line stands
use Rattle.ct_problem.proofs.Base.{◌≡◌, ℕ, zero, suc, ◌<◌, false, List, [], ◌∷◌, ◌++◌, length, take, get_or, map, string_bytes, None, refl, sym, ap}
use Rattle.ct_problem.proofs.Base.{◌∙◌, arith, position, bytes_eq, append-nil, IsOtherText, TextsDiffer, namings_of, NameInfo}
use Rattle.ct_problem.proofs.Frame.{unequal_words}
use Rattle.ct_problem.proofs.FirstPlaces.{position-none_more}

abbrev pub text_of : NameInfo → List ℕ
text_of info = string_bytes info.text

other_at : (text : List ℕ) (infos : List NameInfo) (at : ℕ) (info : NameInfo) → IsOtherText text (namings_of infos) → at < length infos →
    info ≡ get_or infos at info → bytes_eq (text_of info) text ≡ false
other_at text [] at info other below here = let no : ⊥ = omega arith in absurd no
other_at text (x ∷ xs) zero info other below here = unequal_words (text_of info) text (λ same. other.0 (ap text_of (sym here) ∙ same))
other_at text (x ∷ xs) (suc at) info other below here = other_at text xs at info other.1 (omega arith) here

pub different_before : (infos : List NameInfo) (at : ℕ) (info : NameInfo) → TextsDiffer (namings_of infos) → at < length infos →
    info ≡ get_or infos at info → position (bytes_eq (text_of info)) (map text_of (take at infos)) ≡ None
different_before [] at info differ below here = let no : ⊥ = omega arith in absurd no
different_before (x ∷ xs) zero info differ below here = refl
different_before (x ∷ xs) (suc at) info differ below here =
    position-none_more (bytes_eq (text_of info)) (text_of x) (map text_of (take at xs)) (other_at (text_of x) xs at info differ.0 (omega arith) here)
    (different_before xs at info differ.1 (omega arith) here)

texts-namings : (infos : List NameInfo) → map text_of infos ≡ map (λ n. n.text) (namings_of infos)
texts-namings [] = refl
texts-namings (x ∷ xs) = ap (λ ts. text_of x ∷ ts) (texts-namings xs)

pub all_texts : (infos : List NameInfo) → map text_of infos ≡ map (λ n. n.text) (namings_of infos) ++ []
all_texts infos = texts-namings infos ∙ sym (append-nil (map (λ n. n.text) (namings_of infos)))
