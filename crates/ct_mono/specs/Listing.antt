-- All monomials in some names up to a total (names are numbers below six).
--     UsesOnly names m             m contains no name but these
--     IsListing names degree ms    ms rises, and has exactly the monomials in these names of total at most degree
--     of_total names t             the monomials in rising names of total t, rising
--     below names n                those of total below n;  up_to names degree   those of total at most degree
-- Law `up_to-listing` in proofs/ListingLaws: `up_to` is such a list. Without names the only monomial is 1.
-- Cited by `up_to`, and by the lists of supports above.
use Rattle.std.specs.Prelude.{◌≡◌, ℕ, zero, suc, ◌<◌, ◌≤◌, List, [], ◌∷◌, ◌++◌, map}
use Rattle.std.specs.List.{All, AllPairs, Contains}
use Rattle.std.proofs.Common.{Less}
use Rattle.ct_algebra.specs.Monomial.{Mono, exp, unit, total, ◌·◌, mono_cmp}
use Rattle.ct_algebra.specs.Names.{name_with, symbol}

abbrev pub UsesOnly : List ℕ → Mono → Type 0
UsesOnly names m = (i : ℕ) → i < 6 → ¬ Contains names i → exp m i ≡ 0

pub record IsListing (names : List ℕ) (degree : ℕ) (ms : List Mono) : Type 0 where
  pub rises : AllPairs (λ m n. mono_cmp m n ≡ Less) ms
  pub within : All (λ m. (total m ≤ degree) × UsesOnly names m) ms
  pub complete : (m : Mono) → total m ≤ degree → UsesOnly names m → Contains ms m

-- without names only 1 is left, of total 0
abbrev pub only_unit : ℕ → List Mono
only_unit zero = unit ∷ []
only_unit (suc t) = []

-- with one more name, first, to what there is without it: those without it come first
abbrev pub with_first : Mono → (ℕ → List Mono) → ℕ → List Mono
with_first x without zero = unit ∷ []
with_first x without (suc t) = without (suc t) ++ map (λ m. x · m) (with_first x without t)

abbrev pub of_total : List ℕ → ℕ → List Mono
of_total [] t = only_unit t
of_total (i ∷ names) t = with_first (symbol (name_with i)) (of_total names) t

abbrev pub below : List ℕ → ℕ → List Mono
below names zero = []
below names (suc n) = below names n ++ of_total names n

abbrev pub up_to : List ℕ → ℕ → List Mono
up_to names degree = below names (suc degree)
