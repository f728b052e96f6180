-- Lists made of lists of one length: main lemmas `length-flat_map_even` and `get_or-flat_map_even`, by the row and the column.
use Rattle.ct_support.proofs.Base.{◌≡◌, ℕ, suc, ◌+◌, ◌*◌, ◌<◌, List, [], ◌∷◌, length, get_or, take, flat_map, sym, ◌∙◌, ap, ap₂, arith, subst}
use Rattle.ct_support.proofs.Base.{length-append, length-take-le, get_or-flat_map}

pub one_more_times : (r n : ℕ) → suc r * n ≡ n + r * n
one_more_times r n = omega arith

module _ {X Y : Type 0} (f : X → List Y) (n : ℕ) (even : (x : X) → length (f x) ≡ n) where
  pub length-flat_map_even : (xs : List X) → length (flat_map f xs) ≡ length xs * n
  length-flat_map_even [] = omega arith
  length-flat_map_even (x ∷ xs) =
      length-append (f x) (flat_map f xs) ∙ ap₂ ◌+◌ (even x) (length-flat_map_even xs) ∙ sym (one_more_times (length xs) n)

  pub get_or-flat_map_even :
      (xs : List X) (row column : ℕ) (x : X) (y : Y) → row < length xs → column < n →
      get_or (flat_map f xs) (row * n + column) y ≡ get_or (f (get_or xs row x)) column y
  get_or-flat_map_even xs row column x y low small =
      ap (λ k. get_or (flat_map f xs) (k + column) y)
      (ap (λ k. k * n) (sym (length-take-le row xs (omega (arith, low)))) ∙ sym (length-flat_map_even (take row xs)))
      ∙ get_or-flat_map f xs row column x y low (subst (λ k. column < k) (sym (even (get_or xs row x))) small)
