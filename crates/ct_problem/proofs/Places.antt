-- The first place in a list whose elements are seen through a function.
use Rattle.ct_problem.proofs.Base.{◌≡◌, refl, ℕ, ◌+◌, Bool, cond, not, nat_lt, List, [], ◌∷◌, map, Option, Some, None, ap, ap₂, length-map, position}
use Rattle.ct_problem.proofs.Base.{prefix_len}

module _ {X Y : Type 0} (p : Y → Bool) (f : X → Y) where
  prefix_len-map : (xs : List X) → prefix_len (λ y. not (p y)) (map f xs) ≡ prefix_len (λ x. not (p (f x))) xs
  prefix_len-map [] = refl
  prefix_len-map (x ∷ xs) = ap (λ (n : ℕ). cond (not (p (f x))) (1 + n) 0) (prefix_len-map xs)

  pub position-map : (xs : List X) → position p (map f xs) ≡ position (λ x. p (f x)) xs
  position-map xs = ap₂ (λ (n k : ℕ). let o : Option ℕ = cond (nat_lt n k) (Some n) None in o) (prefix_len-map xs) (length-map xs f)
