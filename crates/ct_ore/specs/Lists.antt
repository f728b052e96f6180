-- What the functions on lists of coefficient terms keep and give.
--     Fits ts              a list that is the written form of an operator within the limits
--     IsRun m ts run       run is the terms of ts up to the first whose symbols are not m
--     IsGathering          which terms of the operator are done, and which are left
--     IsBefore b ts n      the first n terms come before b, and one of them is where there are any
--     IsFront ts n         the first n terms are in written form by themselves, and one is where there are any
--     IsSum                a list in written form with the sum of another, no longer and no larger; IsSorted  its terms bounded alike
use Rattle.std.specs.Prelude.{◌≡◌, ◌≢◌, ℕ, ◌+◌, ◌≤◌, min, List, [], ◌∷◌, ◌++◌, length, take, drop}
use Rattle.std.proofs.Common.{Less}
use Rattle.ct_algebra.specs.Monomial.{Mono}
use Rattle.ct_algebra.specs.Terms.{merged}
use Rattle.ct_algebra.specs.Operators.{Operator}
use Rattle.ct_algebra.specs.Polynomial.{Polynomial}
use Rattle.ct_algebra.specs.WholeNumbers.{int_group}
use Rattle.ct_checked.specs.Limits.{most_terms, largest_norm}
use Rattle.ct_poly.specs.declared.term.Term.{Term}
use Rattle.ct_poly.specs.Terms.{entries}
use Rattle.ct_ore.specs.declared.coefficient_term.CoefficientTerm.{CoefficientTerm}
use Rattle.ct_ore.specs.declared.op.OpTerm.{OpTerm}
use Rattle.ct_ore.specs.Terms.{op_entries}
use Rattle.ct_ore.specs.CoefficientTerms.{by_parts, pair_cmp, key, keyed, sum_of_parts, IsWritten, size_of, row_of, all_terms, coefficient_terms}
use Rattle.ct_ore.specs.Bounds.{EachWithin}

pub record Fits (ts : List CoefficientTerm) : Type 0 where
  pub written : IsWritten ts
  pub few : length ts ≤ most_terms
  pub small : size_of ts ≤ largest_norm

abbrev pub StartsOther : Mono → List CoefficientTerm → Type 0
StartsOther m [] = Unit {0}
StartsOther m (t ∷ ts) = t.symbols ≢ m

pub record IsRun (m : Mono) (ts : List CoefficientTerm) (run : List Term) : Type 0 where
  pub whole : ts ≡ row_of m (entries run) ++ drop (length run) ts
  pub other : StartsOther m (drop (length run) ts)

abbrev pub without_symbols : CoefficientTerm → Term
without_symbols t = record { mono = t.names; coef = t.number }

abbrev pub AllHave : Mono → List CoefficientTerm → Type 0
AllHave m [] = Unit {0}
AllHave m (t ∷ ts) = (t.symbols ≡ m) × AllHave m ts

-- the first n terms have the symbols m, and the next has not
pub record IsRunLength (m : Mono) (ts : List CoefficientTerm) (n : ℕ) : Type 0 where
  pub same : AllHave m (take n ts)
  pub other : StartsOther m (drop n ts)
  pub within : n ≤ length ts

-- the terms `later` of the operator are left, and nothing else of the list
pub record IsGathering (ts : List CoefficientTerm) (out : List OpTerm) (rest : List CoefficientTerm) : Type 0 where
  pub later : List (Mono × Polynomial)
  pub whole : (sum_of_parts ts).terms ≡ op_entries out ++ later
  pub left : rest ≡ all_terms later
  pub few : length rest ≤ length ts
  pub small : size_of rest ≤ size_of ts

-- each term comes before b
abbrev pub AllBefore : CoefficientTerm → List CoefficientTerm → Type 0
AllBefore b [] = Unit {0}
AllBefore b (t ∷ ts) = (pair_cmp (key b) (key t) ≡ Less) × AllBefore b ts

-- the first n terms do, and the first one is among them
pub record IsBefore (b : CoefficientTerm) (ts : List CoefficientTerm) (n : ℕ) : Type 0 where
  pub all : AllBefore b (take n ts)
  pub within : n ≤ length ts
  pub some : min 1 (length ts) ≤ n

pub record IsFront (ts : List CoefficientTerm) (n : ℕ) : Type 0 where
  pub written : IsWritten (take n ts)
  pub within : n ≤ length ts
  pub some : min 1 (length ts) ≤ n

pub record IsSum (ts us : List CoefficientTerm) : Type 0 where
  pub written : IsWritten us
  pub value : sum_of_parts us ≡ sum_of_parts ts
  pub few : length us ≤ length ts
  pub small : size_of us ≤ size_of ts

-- and whose terms are within the bounds that the other's are within
pub record IsSorted (ts us : List CoefficientTerm) : Type 0 where
  pub sum : IsSum ts us
  pub within : (b d : ℕ) → EachWithin b d ts → EachWithin b d us

-- the coefficient terms of an operator within the limits
pub record IsPartsOf (p : Operator) (ts : List CoefficientTerm) : Type 0 where
  pub list : ts ≡ coefficient_terms p
  pub fits : Fits ts

pub record CanMerge (ps qs : List CoefficientTerm) : Type 0 where
  pub first : IsWritten ps
  pub second : IsWritten qs
  pub small : size_of ps + size_of qs ≤ largest_norm

pub record IsMerged (ps qs v : List CoefficientTerm) : Type 0 where
  pub terms : keyed v ≡ merged by_parts int_group (keyed ps) (keyed qs)
  pub few : length v ≤ length ps + length qs
  pub small : size_of v ≤ size_of ps + size_of qs
