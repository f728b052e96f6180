-- Tested generators give a module. Main lemmas: `tested_commute` (the symbols commute on the rows), `tested_units` (rows of
-- steps are unit rows), `tested_grows` (the staircase grows from 1) and `tested_kills` (the generators kill the start).
use Rattle.ct_telescoping.proofs.Base.{◌≡◌, ℕ, ◌+◌, List, [], ◌∷◌, cond, eqb, ◌⊎◌, All, sym, ◌∙◌, ap, refl, arith, inl, inr, eq-eqb, All-head}
use Rattle.ct_telescoping.proofs.Base.{All-tail, Module, act, lift, Mono, exp, exp-·, unit, total, total-·, monomials, Name, place, place_small}
use Rattle.ct_telescoping.proofs.Base.{symbol, exp-symbol, power, polys, polys_domain, Action, Still, polynomials, Operator, apply, EachKills, embed}
use Rattle.ct_telescoping.proofs.Base.{K, field, IsIrreducible}
use Rattle.ct_telescoping.specs.Vector.{Vector, entry, entry-unit_vector, vector_group}
use Rattle.ct_telescoping.specs.VectorModule.{scale_vector}
use Rattle.ct_telescoping.specs.StaircaseModule.{Rows, RowsCommute, staircase_module, start}
use Rattle.ct_telescoping.specs.Staircase.{StartsUnits, GrowsFromOne}
use Rattle.ct_telescoping.specs.Tested.{free_column, image, IsTested}
use Rattle.ct_telescoping.proofs.RisingLists.{total_unit, total-symbol}
use Rattle.ct_telescoping.proofs.StaircaseGrows.{split, IsProductOf, GrowsFromOne-staircase}
use Rattle.ct_telescoping.proofs.StillNames.{is_still, commute_of_tests}
use Rattle.ct_telescoping.proofs.SymbolsBackward.{backward-power}

module _ (a : Name → Action) (d : ℕ) (M : Rows) (commutes : RowsCommute a d M) where
  abbrev W : Module polys (polynomials a) (Vector K d)
  W = staircase_module a d M commutes

  -- the vector of a monomial
  pub free_column-power : (m : Mono) → free_column a d M m ≡ power W.D m (start a d M commutes)
  unfolding free_column
  free_column-power m = backward-power W.D W.D_D m (start a d M commutes)

  pub image-apply : (p : Operator) → image a d M p ≡ apply a W p (start a d M commutes)
  unfolding apply act
  image-apply p =
      λ i. lift monomials polys.group (vector_group field.group d)
      (λ m c. scale_vector field d (embed polys polys_domain c) (free_column-power m i)) p

  -- operators whose images are zero kill the start
  pub image_kills :
      (gs : List Operator) → All (λ g. image a d M g ≡ (vector_group field.group d).zero) gs →
      EachKills a W gs (start a d M commutes)
  image_kills [] zeros = tt
  image_kills (g ∷ gs) zeros = (
    sym (image-apply g) ∙ All-head (λ x. image a d M x ≡ (vector_group field.group d).zero) g gs zeros,
    image_kills gs (All-tail (λ x. image a d M x ≡ (vector_group field.group d).zero) g gs zeros),
  )

module _ (a : Name → Action) (generators : List Operator) (d : ℕ) (element : ℕ → Mono) (M : Rows) (tested : IsTested a generators d element M) where
  pub tested_commute : RowsCommute a d M
  tested_commute = commute_of_tests a d M tested.rows.still_rows tested.closed

  -- no leading monomial divides 1
  pub unit_irreducible : IsIrreducible generators unit
  unit_irreducible k g below divides = by (split divides.mono)
    where
      by : (divides.mono ≡ unit) ⊎ IsProductOf divides.mono → ⊥
      by (inl same) = tested.not_trivial k g below divides.mono divides.coef divides.leads same
      by (inr w) =
          let whole : total unit ≡ total divides.quotient + total divides.mono = ap total (sym divides.product)
          ∙ total-· divides.quotient divides.mono in
          let part : total divides.mono ≡ total (symbol w.name) + total w.rest = ap total w.is ∙ total-· (symbol w.name) w.rest in
          absurd (omega (arith, total_unit, total-symbol w.name))

  pub tested_grows : GrowsFromOne d element
  tested_grows = GrowsFromOne-staircase a generators d element tested.staircase unit_irreducible

  pub tested_units : StartsUnits d element M
  tested_units i b k below small same c within = by (is_still a d M i)
    where
      by : Dec (a i ≡ Still) → M i b c ≡ cond (eqb c k) field.one field.zero
      by (yes still) = absurd (clash _ (sym none ∙ ap (λ m. exp m (place i)) same ∙ exp-· (symbol i) (element b) (place i) (place_small i)
          ∙ ap (λ n. n + exp (element b) (place i)) (exp-symbol i (place i) (place_small i) ∙ ap
          (λ t. cond t 1 0) (eq-eqb (place i) (place i) refl))))
        where
          none : exp (element k) (place i) ≡ 0
          none = tested.staircase.have_operators k small i still

          clash : (n : ℕ) → 0 ≡ 1 + n → ⊥
          clash n e = absurd (omega (arith, e))
      by (no acts) =
          tested.rows.rows i acts b c below within
          ∙ ap (λ m. entry field.group d (tested.rows.forms m) c) (sym same)
          ∙ ap (λ v. entry field.group d v c) (tested.rows.normal.elements k small)
          ∙ entry-unit_vector field d k c within

  pub tested_kills :
      EachKills a (staircase_module a d M tested_commute) generators (start a d M tested_commute)
  tested_kills = image_kills a d M tested_commute generators tested.killed
