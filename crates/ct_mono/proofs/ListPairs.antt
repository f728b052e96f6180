-- Lists that are joined or mapped: what holds of each pair of elements, and what is contained. Main lemmas `pairs-append`,
-- `pairs-map`, `Contains-map`, cited by `ListingLaws`.
use Rattle.std.specs.Prelude.{zero, suc, List, [], ◌∷◌, ◌++◌, map}
use Rattle.std.specs.List.{All, AllPairs, Contains}
use Rattle.std.proofs.Common.{ap, arith}
use Rattle.std.proofs.lemmas.List.Elements.{All-head, All-tail, All-append, All-map, All-weaker}
use Rattle.std.proofs.lemmas.List.Kept.{AllPairs-cons}

module _ {X : Type 0} (R : X → X → Type 0) where
  pub pairs_tail : (x : X) (xs : List X) → AllPairs R (x ∷ xs) → AllPairs R xs
  pairs_tail x xs pairs i j d order small = pairs (suc i) (suc j) d (omega arith) (omega arith)

  pub pairs_head : (x : X) (xs : List X) → AllPairs R (x ∷ xs) → All (R x) xs
  pairs_head x xs pairs k d small = pairs 0 (suc k) d (omega arith) (omega arith)

  pub pairs-append : (xs ys : List X) → AllPairs R xs → AllPairs R ys → All (λ x. All (R x) ys) xs → AllPairs R
      (xs ++ ys)
  pairs-append [] ys first second across = second
  pairs-append (x ∷ xs) ys first second across =
      AllPairs-cons R x (xs ++ ys)
      (All-append (R x) xs ys (pairs_head x xs first) (All-head (λ x. All (R x) ys) x xs across))
      (pairs-append xs ys (pairs_tail x xs first) second (All-tail (λ x. All (R x) ys) x xs across))

  pub pairs-map :
      (f : X → X) → ((x y : X) → R x y → R (f x) (f y)) → (xs : List X) → AllPairs R xs → AllPairs R (map f xs)
  pairs-map f kept [] pairs = λ i j d order small. absurd (omega arith)
  pairs-map f kept (x ∷ xs) pairs =
      AllPairs-cons R (f x) (map f xs)
      (All-map (R (f x)) f xs (All-weaker (R x) (λ y. R (f x) (f y)) (kept x) xs (pairs_head x xs pairs)))
      (pairs-map f kept xs (pairs_tail x xs pairs))

pub Contains-map : {X : Type 0} (f : X → X) (xs : List X) (x : X) → Contains xs x → Contains (map f xs) (f x)
Contains-map f [] x (k, small, is) = absurd (omega arith)
Contains-map f (y ∷ ys) x (zero, small, is) = (0, omega arith, ap f is)
Contains-map f (y ∷ ys) x (suc k, small, is) =
    let rest = Contains-map f ys x (k, omega arith, is) in (suc rest.0, omega (arith, rest.1), rest.2)
