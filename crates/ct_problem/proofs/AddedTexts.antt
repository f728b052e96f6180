-- A text that is added to a table stands last, where it stood nowhere before.
use Rattle.ct_problem.proofs.Base.{◌≡◌, ℕ, Bool, false, ◌||◌, List, [], ◌∷◌, ◌++◌, map, None, cond, refl, sym, ap, ◌∙◌, position, list_any, bytes_eq}
use Rattle.ct_problem.proofs.Base.{Vec, map-append, insert_key}
use Rattle.ct_problem.proofs.FirstPlaces.{position-none}

abbrev pub items_of : Vec ℕ → List ℕ
items_of v = v.items

list_any-items : (p : List ℕ → Bool) (ks : List (Vec ℕ)) → list_any (λ k. p k.items) ks ≡ list_any p (map items_of ks)
list_any-items p [] = refl
list_any-items p (k ∷ ks) = ap (λ (b : Bool). p k.items || b) (list_any-items p ks)

pub added_last : (ks : List (Vec ℕ)) (k : Vec ℕ) (text : List ℕ) (before : List (List ℕ)) → before ≡ map items_of ks → k.items ≡ text →
    position (bytes_eq text) before ≡ None
    → map items_of (insert_key (λ x y. bytes_eq x.items y.items) ks k) ≡ before ++ text ∷ []
added_last ks k text before seen copied none =
    let absent : list_any (λ y. bytes_eq k.items y.items) ks ≡ false =
    list_any-items (bytes_eq k.items) ks ∙ ap (λ (t : List ℕ). list_any (bytes_eq t) (map items_of ks)) copied
    ∙ ap (list_any (bytes_eq text)) (sym seen) ∙ position-none (bytes_eq text) before none in
    ap (λ (b : Bool). map items_of (cond b ks (ks ++ k ∷ []))) absent
    ∙ map-append items_of ks (k ∷ [])
    ∙ ap (λ (t : List ℕ). map items_of ks ++ t ∷ []) copied
    ∙ ap (λ (ts : List (List ℕ)). ts ++ text ∷ []) (sym seen)
