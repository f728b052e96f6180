-- Rising lists of monomials, and lists without repetition.
--     IsOnce xs           no element of the list stands twice
--     Rises ms            each monomial of the list is lower than all later ones
--     IsListingOf P ms    the list rises, and has exactly the monomials with P
--     rising ms           the monomials of a list in rising order, each once
--     within n            all monomials of total at most n
--     up_to test n        those that pass a test, rising
-- A set of monomials has at most one listing (`listing_unique` of proofs/RisingLists), so a list made in another way that
-- is a listing of the same set is the same list.
use Rattle.std.specs.Prelude.{◌≡◌, ℕ, zero, suc, Bool, List, [], ◌∷◌, ◌++◌, map}
use Rattle.std.specs.List.{Contains, filter, flat_map}
use Rattle.std.proofs.Common.{Less}
use Rattle.ct_algebra.specs.Terms.{by_order}
use Rattle.ct_algebra.specs.Monomial.{Mono, unit, ◌·◌, mono_cmp}
use Rattle.ct_algebra.specs.Names.{Name, x0, x1, x2, x3, x4, x5, symbol}

abbrev pub IsOnce : {X : Type 0} → List X → Type 0
IsOnce [] = Unit {0}
IsOnce (x ∷ xs) = (Contains xs x → ⊥) × IsOnce xs

abbrev pub Rises : List Mono → Type 0
Rises [] = Unit {0}
Rises (m ∷ ms) = ((n : Mono) → Contains ms n → mono_cmp m n ≡ Less) × Rises ms

pub record IsListingOf (P : Mono → Type 0) (ms : List Mono) : Type 0 where
  pub rises : Rises ms
  pub sound : (m : Mono) → Contains ms m → P m
  pub complete : (m : Mono) → P m → Contains ms m

-- one more monomial, unless it is there
abbrev pub insert_rising : Mono → List Mono → List Mono
insert_rising m [] = m ∷ []
insert_rising m (n ∷ ns) = by_order (mono_cmp m n) (m ∷ n ∷ ns) (n ∷ ns) (n ∷ insert_rising m ns)

abbrev pub rising : List Mono → List Mono
rising [] = []
rising (m ∷ ms) = insert_rising m (rising ms)

abbrev pub all_names : List Name
all_names = x0 ∷ x1 ∷ x2 ∷ x3 ∷ x4 ∷ x5 ∷ []

-- in no order, and more than once
abbrev pub within : ℕ → List Mono
within zero = unit ∷ []
within (suc n) = within n ++ flat_map (λ i. map (λ m. symbol i · m) (within n)) all_names

unfoldable pub up_to : (Mono → Bool) → ℕ → List Mono
up_to test n = filter test (rising (within n))
