-- What the laws of staircases and their modules say; the functions of src/laws.rt prove them.
--     StaircaseGrows            a staircase has the divisors of its elements, and 1 unless a leading monomial is 1; each
--                               element but the first, 1, is a symbol times an earlier one
--     StaircaseIsModule         where the rows commute: the map from operators to what they make is linear, a product makes
--                               what its factors make in turn, combinations of operators that kill a vector kill it, and each
--                               staircase element makes its unit vector of the start
--     RowsExist                 generators with a staircase have rows, whether they are tested or not
--     RowsAreDetermined         generators have one staircase, and one list of rows
--     TestsSuffice              rows that pass the tests are the rows of normal forms
--     TestedGivesModule         vectors over a tested staircase are a module, in which each element makes its unit vector of
--                               the start and combinations of the generators make zero
--     ImageDecidesMembership    for tested generators a member makes zero of the start, and where an operator makes zero of
--                               it, a reduced rest of the operator is zero
-- So a list is tested exactly where its own rows pass the tests; and an operator is a member exactly where it makes zero of the
-- start, and exactly where a reduced rest of it is zero.
use Rattle.std.specs.Prelude.{◌≡◌, ℕ, ◌<◌, List}
use Rattle.std.specs.List.{All}
use Rattle.ct_algebra.specs.Monomial.{Mono, unit, ◌·◌}
use Rattle.ct_algebra.specs.Names.{Name, power}
use Rattle.ct_algebra.specs.Polynomial.{Polynomial, polys}
use Rattle.ct_algebra.specs.Actions.{Action, Still}
use Rattle.ct_algebra.specs.Operators.{Operator, no_operator, term_of, multiple, sum_of_operators, product_of, combination, Kills, EachKills}
use Rattle.ct_algebra.specs.FreeOf.{IsOver}
use Rattle.ct_algebra.specs.Leading.{IsIrreducible, IsReduced}
use Rattle.ct_algebra.specs.Membership.{Reduction, IsMember, ReducesTo}
use Rattle.ct_algebra.specs.Field.{K, field}
use Rattle.ct_telescoping.specs.Vector.{Vector, unit_vector, vector_group}
use Rattle.ct_telescoping.specs.StaircaseModule.{Rows, RowsCommute, staircase_module, start, made}
use Rattle.ct_telescoping.specs.Staircase.{IsElement, IsStaircaseOf, GrowsFromOne, StartsUnits}
use Rattle.ct_telescoping.specs.Tested.{HasRows, PassesTests, IsTested, free_column, image}

pub record GrowsFromItsFirst (a : Name → Action) (generators : List Operator) (d : ℕ) (element : ℕ → Mono) : Type 0 where
  pub divisors : (t m : Mono) → IsElement d element (t · m) → IsElement d element m
  pub differ : (j k : ℕ) → j < d → k < d → element j ≡ element k → j ≡ k
  pub has_one : IsIrreducible generators unit → IsElement d element unit
  pub grows : IsIrreducible generators unit → GrowsFromOne d element

abbrev pub StaircaseGrows : Type 0
StaircaseGrows =
    (a : Name → Action) (generators : List Operator) (d : ℕ) (element : ℕ → Mono) →
    IsStaircaseOf d element a generators → GrowsFromItsFirst a generators d element

module _ (a : Name → Action) (d : ℕ) (M : Rows) (commutes : RowsCommute a d M) where
  pub record ActsAsModule : Type 0 where
    pub sums :
        (p q : Operator) (v : Vector K d) →
        made a d M commutes (sum_of_operators p q) v ≡
        (staircase_module a d M commutes).group.◌+◌ (made a d M commutes p v) (made a d M commutes q v)
    pub multiples :
        (c : Polynomial) (p : Operator) (v : Vector K d) →
        made a d M commutes (multiple a c p) v ≡ (staircase_module a d M commutes).scale c (made a d M commutes p v)
    pub one : (v : Vector K d) → made a d M commutes (term_of unit polys.one) v ≡ v
    pub sums_of_vectors :
        (p : Operator) (v w : Vector K d) →
        made a d M commutes p ((staircase_module a d M commutes).group.◌+◌ v w) ≡
        (staircase_module a d M commutes).group.◌+◌ (made a d M commutes p v) (made a d M commutes p w)
    pub products :
        (p q : Operator) (v : Vector K d) →
        made a d M commutes (product_of a p q) v ≡ made a d M commutes p (made a d M commutes q v)
    pub combinations :
        (cs gs : List Operator) (v : Vector K d) →
        EachKills a (staircase_module a d M commutes) gs v →
        Kills a (staircase_module a d M commutes) (combination a cs gs) v
    pub elements :
        (element : ℕ → Mono) → GrowsFromOne d element → StartsUnits d element M → (k : ℕ) → k < d →
        made a d M commutes (term_of (element k) polys.one) (start a d M commutes) ≡ unit_vector field d k

abbrev pub StaircaseIsModule : Type 0
StaircaseIsModule =
    (a : Name → Action) (d : ℕ) (M : Rows) (commutes : RowsCommute a d M) → ActsAsModule a d M commutes

pub record AreSameRows (d e : ℕ) (element other : ℕ → Mono) (M N : Rows) : Type 0 where
  pub sizes : d ≡ e
  pub elements : (k : ℕ) → k < d → element k ≡ other k
  pub rows : (i : Name) (b c : ℕ) → b < d → c < d → M i b c ≡ N i b c

abbrev pub RowsAreDetermined : Type 0
RowsAreDetermined =
    (a : Name → Action) (generators : List Operator) → All (IsOver a) generators →
    (d e : ℕ) (element other : ℕ → Mono) (M N : Rows) →
    IsStaircaseOf d element a generators → HasRows a generators d element M →
    IsStaircaseOf e other a generators → HasRows a generators e other N → AreSameRows d e element other M N

-- so a list is tested exactly where its own rows pass the tests
abbrev pub RowsExist : Type 0
RowsExist =
    (a : Name → Action) (generators : List Operator) → All (IsOver a) generators →
    (d : ℕ) (element : ℕ → Mono) → IsStaircaseOf d element a generators →
    (M : Rows) × HasRows a generators d element M

-- rows of which those of steps are unit rows
abbrev pub TestsSuffice : Type 0
TestsSuffice =
    (a : Name → Action) (generators : List Operator) (d : ℕ) (element : ℕ → Mono) (M : Rows) →
    IsStaircaseOf d element a generators → IsIrreducible generators unit → StartsUnits d element M →
    ((i : Name) → a i ≡ Still → (b c : ℕ) → b < d → c < d → M i b c ≡ field.zero) → PassesTests a d M →
    All (λ g. image a d M g ≡ (vector_group field.group d).zero) generators → HasRows a generators d element M

module _ (a : Name → Action) (generators : List Operator) (d : ℕ) (element : ℕ → Mono) (M : Rows) where
  pub record GivesModule : Type 0 where
    pub commutes : RowsCommute a d M
    pub module_laws : ActsAsModule a d M commutes
    pub elements :
        (k : ℕ) → k < d → made a d M commutes (term_of (element k) polys.one) (start a d M commutes) ≡ unit_vector field d k
    pub columns : (m : Mono) → free_column a d M m ≡ power (staircase_module a d M commutes).D m (start a d M commutes)
    pub images : (p : Operator) → image a d M p ≡ made a d M commutes p (start a d M commutes)
    pub combinations :
        (cofactors : List Operator) →
        Kills a (staircase_module a d M commutes) (combination a cofactors generators) (start a d M commutes)

  pub record DecidesByImage (commutes : RowsCommute a d M) (p : Operator) : Type 0 where
    pub of_member : IsMember a generators p → Kills a (staircase_module a d M commutes) p (start a d M commutes)
    pub rest_is_zero :
        (r : Reduction) → ReducesTo a generators p r → IsOver a r.rest → IsReduced generators r.rest →
        Kills a (staircase_module a d M commutes) p (start a d M commutes) → r.rest ≡ no_operator

abbrev pub TestedGivesModule : Type 0
TestedGivesModule =
    (a : Name → Action) (generators : List Operator) (d : ℕ) (element : ℕ → Mono) (M : Rows) →
    IsTested a generators d element M → GivesModule a generators d element M

abbrev pub ImageDecidesMembership : Type 0
ImageDecidesMembership =
    (a : Name → Action) (generators : List Operator) (d : ℕ) (element : ℕ → Mono) (M : Rows) →
    IsTested a generators d element M → (commutes : RowsCommute a d M) (p : Operator) →
    DecidesByImage a generators d element M commutes p
