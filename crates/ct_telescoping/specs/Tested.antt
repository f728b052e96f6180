-- Lists of generators that are tested: a finite staircase, its rows, and the tests of a Gröbner basis.
--     combined f p             the sum over the terms of p of the coefficient times f of the monomial
--     FirstReducer gs m        the first generator whose leading monomial divides m
--     AreNormalForms           unit vectors of the elements; and at any other monomial what makes zero of the first generator
--                              that divides it, moved there
--     HasRows                  row b of a name is the normal form of its symbol times element b
--     free_column m            the vector of a monomial: its symbols after each other, from the first name's, on the start
--     image p                  what an operator makes of the start
--     HasPurePower gs i        some leading monomial is a power of the symbol of i
--     IsTested                 generators over the actions, none zero and none with leading monomial 1; each name with an
--                              operator has a pure power; the staircase has at most 16 elements; each two symbols commute on
--                              the rows; and each generator's image is zero
-- Rows are given for all names; those of a name without operator are zero. All is by value: how the fractions of rows are
-- written is left to the crates with code.
use Rattle.std.specs.Prelude.{◌≡◌, ◌≢◌, ℕ, ◌<◌, ◌≤◌, List, length, get_or}
use Rattle.std.specs.List.{All, Contains}
use Rattle.ct_algebra.specs.Sums.{lift}
use Rattle.ct_algebra.specs.Monomial.{Mono, unit, exp, ◌·◌, monomials}
use Rattle.ct_algebra.specs.Names.{Name, x0, x1, x2, x3, x4, x5, place, symbol, times_over}
use Rattle.ct_algebra.specs.Polynomial.{Polynomial, polys, polys_domain}
use Rattle.ct_algebra.specs.Actions.{Action, Still}
use Rattle.ct_algebra.specs.Operators.{Operator, no_operator, term_of, product_of}
use Rattle.ct_algebra.specs.FreeOf.{IsWithout, IsOver}
use Rattle.ct_algebra.specs.Leading.{OperatorLeads, LeadingDivides}
use Rattle.ct_algebra.specs.Fractions.{embed}
use Rattle.ct_algebra.specs.Field.{K, field, coefficients}
use Rattle.ct_telescoping.specs.Vector.{Vector, entry, vector_group, unit_vector}
use Rattle.ct_telescoping.specs.RowAction.{action}
use Rattle.ct_telescoping.specs.VectorModule.{scale_vector, act_vector}
use Rattle.ct_telescoping.specs.StaircaseModule.{Rows}
use Rattle.ct_telescoping.specs.Staircase.{HasOperators, IsStaircaseOf}

-- the linear map that sends each monomial to its vector
abbrev pub combined : {d : ℕ} → (Mono → Vector K d) → Operator → Vector K d
combined {d} f p =
    lift monomials polys.group (vector_group field.group d) (λ m c. scale_vector field d (embed polys polys_domain c) (f m)) p

pub record FirstReducer (generators : List Operator) (m : Mono) : Type 0 where
  pub index : ℕ
  pub in_range : index < length generators
  pub divides : LeadingDivides (get_or generators index no_operator) m
  pub earlier : (i : ℕ) → i < index → ¬ LeadingDivides (get_or generators i no_operator) m

module _ (a : Name → Action) (generators : List Operator) (d : ℕ) (element : ℕ → Mono) where
  -- the first generator that divides m, moved there: its leading monomial is m, and what it is combined to is zero
  abbrev pub ReducesAt : (Mono → Vector K d) → Mono → Type 0
  ReducesAt forms m =
      HasOperators a m → (first : FirstReducer generators m) →
      combined forms (product_of a (term_of first.divides.quotient polys.one) (get_or generators first.index no_operator)) ≡
      (vector_group field.group d).zero

  pub record AreNormalForms (forms : Mono → Vector K d) : Type 0 where
    pub elements : (k : ℕ) → k < d → forms (element k) ≡ unit_vector field d k
    pub reduces : (m : Mono) → ReducesAt forms m

  pub record HasRows (M : Rows) : Type 0 where
    pub forms : Mono → Vector K d
    pub normal : AreNormalForms forms
    pub rows :
        (i : Name) → a i ≢ Still → (b c : ℕ) → b < d → c < d →
        M i b c ≡ entry field.group d (forms (symbol i · element b)) c
    pub still_rows : (i : Name) → a i ≡ Still → (b c : ℕ) → b < d → c < d → M i b c ≡ field.zero

module _ (a : Name → Action) (d : ℕ) (M : Rows) where
  abbrev pub acted : Name → Vector K d → Vector K d
  acted i v = act_vector field d (coefficients a) M i v

  -- 1 makes the start; the symbol of the last name acts last
  unfoldable pub free_column : Mono → Vector K d
  free_column m =
      times_over (exp m 5) (acted x5) (times_over (exp m 4) (acted x4) (times_over (exp m 3) (acted x3)
      (times_over (exp m 2) (acted x2) (times_over (exp m 1) (acted x1) (times_over (exp m 0) (acted x0) (unit_vector field d 0))))))

  abbrev pub image : Operator → Vector K d
  image p = combined free_column p

  -- names in their order, on each row
  abbrev pub PassesTests : Type 0
  PassesTests =
      (i j : Name) → a i ≢ Still → a j ≢ Still → place i < place j → (b : ℕ) → b < d → (c : ℕ) → c < d →
      action field (coefficients a) d M j (M i b) c ≡ action field (coefficients a) d M i (M j b) c

pub record HasPurePower (generators : List Operator) (i : Name) : Type 0 where
  pub generator : Operator
  pub stands : Contains generators generator
  pub mono : Mono
  pub coef : Polynomial
  pub leads : OperatorLeads generator mono coef
  pub pure : (j : Name) → j ≢ i → IsWithout j mono

abbrev pub largest_staircase : ℕ
largest_staircase = 16

pub record IsTested (a : Name → Action) (generators : List Operator) (d : ℕ) (element : ℕ → Mono) (M : Rows) : Type 0 where
  pub over : All (IsOver a) generators
  pub nonzero : All (λ g. g ≢ no_operator) generators
  pub not_trivial : All (λ g. (m : Mono) (c : Polynomial) → OperatorLeads g m c → m ≢ unit) generators
  pub finite : (i : Name) → a i ≢ Still → HasPurePower generators i
  pub staircase : IsStaircaseOf d element a generators
  pub few : d ≤ largest_staircase
  pub rows : HasRows a generators d element M
  pub closed : PassesTests a d M
  pub killed : All (λ g. image a d M g ≡ (vector_group field.group d).zero) generators
