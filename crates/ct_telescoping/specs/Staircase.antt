-- Staircases: the monomials of a finite module, and operators that are supported on them.
--     HasOperators a m             no symbol of the monomial m is that of a name without operator under the actions a
--     IsElement d element m        m is one of the elements
--     IsAmong d element p          each monomial of the operator p is an element
--     IsStaircaseOf a gs           the elements rise, and are the irreducible monomials that have operators
--     GrowsFromOne                 the first is 1, they differ, and each later one is a symbol times an earlier one
--     StartsUnits M                where a symbol times an element is an element again, the row is that element's unit row
-- Elements are numbered from 0 to d − 1. `GrowsFromOne` is what the laws of modules need of a staircase; that a staircase
-- of generators whose leading monomials are not 1 grows from 1 is `GrowsFromOne-staircase` of proofs/StaircaseGrows.
use Rattle.std.specs.Prelude.{◌≡◌, ℕ, ◌<◌, cond, eqb, List}
use Rattle.std.proofs.Common.{Less}
use Rattle.ct_algebra.specs.Terms.{EachTerm}
use Rattle.ct_algebra.specs.Monomial.{Mono, unit, ◌·◌, mono_cmp}
use Rattle.ct_algebra.specs.Names.{Name, symbol}
use Rattle.ct_algebra.specs.Actions.{Action, Still}
use Rattle.ct_algebra.specs.Operators.{Operator}
use Rattle.ct_algebra.specs.FreeOf.{IsWithout}
use Rattle.ct_algebra.specs.Leading.{IsIrreducible}
use Rattle.ct_algebra.specs.Field.{field}
use Rattle.ct_telescoping.specs.StaircaseModule.{Rows}

-- the monomial is a product of symbols of names with operators
abbrev pub HasOperators : (Name → Action) → Mono → Type 0
HasOperators a m = (i : Name) → a i ≡ Still → IsWithout i m

module _ (d : ℕ) (element : ℕ → Mono) where
  -- the monomial is one of the elements
  pub record IsElement (m : Mono) : Type 0 where
    pub place : ℕ
    pub in_range : place < d
    pub is : m ≡ element place

  abbrev pub IsAmong : Operator → Type 0
  IsAmong p = EachTerm (λ m c. IsElement m) p.terms

  -- the staircase of generators
  pub record IsStaircaseOf (a : Name → Action) (generators : List Operator) : Type 0 where
    pub rises : (j k : ℕ) → j < k → k < d → mono_cmp (element j) (element k) ≡ Less
    pub irreducible : (k : ℕ) → k < d → IsIrreducible generators (element k)
    pub have_operators : (k : ℕ) → k < d → HasOperators a (element k)
    pub complete : (m : Mono) → HasOperators a m → IsIrreducible generators m → IsElement m

  -- the element is a symbol times an earlier one
  pub record IsStep (k : ℕ) : Type 0 where
    pub name : Name
    pub before : ℕ
    pub earlier : before < k
    pub product : element k ≡ symbol name · element before

  pub record GrowsFromOne : Type 0 where
    pub some : 0 < d
    pub first : element 0 ≡ unit
    pub distinct : (j k : ℕ) → j < d → k < d → element j ≡ element k → j ≡ k
    pub steps : (k : ℕ) → 0 < k → k < d → IsStep k

  -- rows of steps are unit rows
  abbrev pub StartsUnits : Rows → Type 0
  StartsUnits M =
      (i : Name) (b k : ℕ) → b < d → k < d → element k ≡ symbol i · element b
      → (c : ℕ) → c < d → M i b c ≡ cond (eqb c k) field.one field.zero
