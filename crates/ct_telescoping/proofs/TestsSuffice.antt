-- Rows that pass the tests are the rows of normal forms: main lemma `tests_suffice`. So who tests rows need not show normal
-- forms of all monomials: in the module that the tests give, the vectors of monomials are these.
use Rattle.ct_telescoping.proofs.Base.{◌≡◌, ℕ, zero, suc, ◌<◌, List, [], ◌∷◌, length, get_or, All, sym, ◌∙◌, ap, refl, arith, Module, act, Mono, unit}
use Rattle.ct_telescoping.proofs.Base.{Name, power, power_symbol, polys, Action, Still, polynomials, Operator, no_operator, term_of, apply, Kills}
use Rattle.ct_telescoping.proofs.Base.{EachKills, apply-product_of, K, field, coefficients, apply-on_zero, IsIrreducible}
use Rattle.ct_telescoping.specs.Vector.{Vector, entry, vector_group}
use Rattle.ct_telescoping.specs.StaircaseModule.{Rows, RowsCommute, staircase_module, start}
use Rattle.ct_telescoping.specs.Staircase.{IsStaircaseOf, GrowsFromOne, StartsUnits}
use Rattle.ct_telescoping.specs.Tested.{combined, image, ReducesAt, HasRows, PassesTests}
use Rattle.ct_telescoping.proofs.StillNames.{commute_of_tests}
use Rattle.ct_telescoping.proofs.StaircaseGrows.{GrowsFromOne-staircase}
use Rattle.ct_telescoping.proofs.StaircaseUnits.{entry-act_unit_vector, power-start}
use Rattle.ct_telescoping.proofs.TestedModule.{image_kills}

module _ (a : Name → Action) (generators : List Operator) (d : ℕ) (element : ℕ → Mono) (M : Rows) (commutes : RowsCommute a d M) where
  abbrev W : Module polys (polynomials a) (Vector K d)
  W = staircase_module a d M commutes

  abbrev x : Vector K d
  x = start a d M commutes

  -- the vector of a monomial
  abbrev form : Mono → Vector K d
  form m = power W.D m x

  combined-apply : (p : Operator) → combined form p ≡ apply a W p x
  unfolding apply act
  combined-apply p = refl

  kills_at : (gs : List Operator) → EachKills a W gs x → (k : ℕ) → k < length gs → Kills a W (get_or gs k no_operator) x
  kills_at [] kills k below = absurd (omega (arith, below))
  kills_at (g ∷ gs) kills zero below = kills.0
  kills_at (g ∷ gs) kills (suc k) below = kills_at gs kills.1 k (omega (arith, below))

  reduces : EachKills a W generators x → (m : Mono) → ReducesAt a generators d element form m
  reduces kills m has first =
      combined-apply _
      ∙ apply-product_of a W (term_of first.divides.quotient polys.one) (get_or generators first.index no_operator) x
      ∙ ap (apply a W (term_of first.divides.quotient polys.one)) (kills_at generators kills first.index first.in_range)
      ∙ apply-on_zero a W _

  rows_of_module :
      GrowsFromOne d element → StartsUnits d element M →
      ((i : Name) → a i ≡ Still → (b c : ℕ) → b < d → c < d → M i b c ≡ field.zero) → EachKills a W generators x →
      HasRows a generators d element M
  rows_of_module grows units still kills = record {
    forms = form;
    normal = record { elements = power-start a d M commutes element grows units; reduces = reduces kills };
    rows = λ i acts b c below within.
        sym (ap (λ v. entry field.group d v c) (power_symbol W.D W.D_D i (element b) x ∙ ap (W.D i)
        (power-start a d M commutes element grows units b below))
        ∙ entry-act_unit_vector field (coefficients a) d M i b below c within);
    still_rows = still;
  }

module _ (a : Name → Action) (generators : List Operator) (d : ℕ) (element : ℕ → Mono) (M : Rows) where
  pub tests_suffice :
      IsStaircaseOf d element a generators → IsIrreducible generators unit → StartsUnits d element M →
      ((i : Name) → a i ≡ Still → (b c : ℕ) → b < d → c < d → M i b c ≡ field.zero) → PassesTests a d M →
      All (λ g. image a d M g ≡ (vector_group field.group d).zero) generators → HasRows a generators d element M
  tests_suffice staircase proper units still closed killed =
      rows_of_module a generators d element M commutes (GrowsFromOne-staircase a generators d element staircase proper) units still
      (image_kills a d M commutes generators killed)
    where
      commutes : RowsCommute a d M
      commutes = commute_of_tests a d M still closed
