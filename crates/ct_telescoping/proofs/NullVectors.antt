-- A free column has a null vector, without names that are in no entry of the left side: main lemmas `null_vector_of-is`
-- and `null_vector_of-free`. At the free column it has the product of all pivots' entries; at a pivot's column the negative entry of
-- the free column, times the product of all others.
use Rattle.ct_telescoping.proofs.Base.{◌≡◌, ◌≢◌, ℕ, Bool, true, false, cond, eqb, List, [], ◌∷◌, ◌⊎◌, Contains, sym, ◌∙◌, ap, ap₂, subst, arith, inl}
use Rattle.ct_telescoping.proofs.Base.{inr, eqb-true, eq-eqb, ne_eqb, Ring, mul_zero, IsDomain, product_nonzero, ring3, ring5, reify, Name}
use Rattle.ct_telescoping.proofs.Base.{Polynomial, polys, polys_domain, IsFreeOf}
use Rattle.std.specs.Prelude.{refl}
use Rattle.ct_telescoping.specs.Elimination.{State}
use Rattle.ct_telescoping.specs.Echelon.{Pivot, HasPivot, IsFree, IsNullVector}
use Rattle.ct_telescoping.specs.EntriesFree.{EntriesAreFree}
use Rattle.ct_telescoping.proofs.ListParts.{contains_first, contains_later, contains_cases, contains_none}
use Rattle.ct_telescoping.proofs.PivotLists.{one_of_column, same_pivot}
use Rattle.ct_telescoping.proofs.FreeFactors.{free-times, free_one}
use native.Mathlib.Decide.{ℕ_discrete}

module _ {A : Type 0} (R : Ring A) (D : IsDomain R) (s : State A) (f : ℕ) where
  open R use {zero, one, ◌+◌, ◌*◌, neg}

  infixl 60 ◌+◌
  infixl 70 ◌*◌
  -- the product of the pivots' entries
  abbrev all_pivots : List Pivot → A
  all_pivots [] = one
  all_pivots (p ∷ ps) = s.left p.row p.column * all_pivots ps

  -- the value at a column, zero without a pivot
  abbrev at_pivot : List Pivot → ℕ → A
  at_pivot [] c = zero
  at_pivot (p ∷ ps) c =
      cond (eqb c p.column) (neg (s.left p.row f) * all_pivots ps) (s.left p.row p.column * at_pivot ps c)

  abbrev pub null_vector_of : List Pivot → ℕ → A
  null_vector_of ps c = cond (eqb c f) (all_pivots ps) (at_pivot ps c)

  all_nonzero :
      (ps : List Pivot) → ((p : Pivot) → Contains ps p → s.left p.row p.column ≢ zero) → all_pivots ps ≢ zero
  all_nonzero [] nonzero = D.proper
  all_nonzero (p ∷ ps) nonzero =
      product_nonzero R D (s.left p.row p.column) (all_pivots ps) (nonzero p (contains_first p ps))
      (all_nonzero ps (λ q found. nonzero q (contains_later p q ps found)))

  here : (e l x : A) → e * (neg l * x) + l * (e * x) ≡ zero
  here e l x = ring3 R e l x (λ z0 z1 z2. (search reify depth 9, search reify depth 9)) refl

  later : (d e l v x : A) → e * v + l * x ≡ zero → e * (d * v) + l * (d * x) ≡ zero
  later d e l v x same = moved ∙ ap (λ w. d * w) same ∙ mul_zero R d
    where
      moved : e * (d * v) + l * (d * x) ≡ d * (e * v + l * x)
      moved = ring5 R d e l v x (λ z0 z1 z2 z3 z4. (search reify depth 9, search reify depth 9)) refl

  cancels_at :
      (ps : List Pivot) →
      ((p q : Pivot) → Contains ps p → Contains ps q → p.column ≡ q.column → p ≡ q) → (p : Pivot) → Contains ps p →
      s.left p.row p.column * at_pivot ps p.column + s.left p.row f * all_pivots ps ≡ zero
  cancels_at [] alone p found = absurd (contains_none p found)
  cancels_at (q ∷ ps) alone p found =
      by (eqb p.column q.column) refl (contains_cases q p ps found)
      (cancels_at ps (λ x y fx fy. alone x y (contains_later q x ps fx) (contains_later q y ps fy)) p)
    where
      by : (b : Bool) → eqb p.column q.column ≡ b → (q ≡ p) ⊎ Contains ps p →
          (Contains ps p → s.left p.row p.column * at_pivot ps p.column + s.left p.row f * all_pivots ps ≡ zero) →
          s.left p.row p.column * cond b (neg (s.left q.row f) * all_pivots ps) (s.left q.row q.column * at_pivot ps p.column)
          + s.left p.row f * (s.left q.row q.column * all_pivots ps) ≡ zero
      by true same other rest =
          let equal : q ≡ p = sym (alone p q found (contains_first q ps) (eqb-true p.column q.column same)) in
          ap (λ r. s.left p.row p.column * (neg (s.left r.row f) * all_pivots ps) + s.left p.row f * (s.left r.row r.column * all_pivots ps)) equal
          ∙ here (s.left p.row p.column) (s.left p.row f) (all_pivots ps)
      by false apart (inl same) rest = absurd (clash (sym (eq-eqb p.column q.column (ap (λ x. x.column) (sym same))) ∙ apart))
        where
          clash : true ≡ false → ⊥
          clash e = cc
      by false apart (inr found) rest =
          later (s.left q.row q.column) (s.left p.row p.column) (s.left p.row f) (at_pivot ps p.column) (all_pivots ps) (rest found)

  no_pivot : (ps : List Pivot) (c : ℕ) → ¬ HasPivot c ps → at_pivot ps c ≡ zero
  no_pivot [] c none = refl
  no_pivot (p ∷ ps) c none =
      ap (λ b. cond b (neg (s.left p.row f) * all_pivots ps) (s.left p.row p.column * at_pivot ps c))
      (ne_eqb c p.column (λ same. none
      (record {
        row = p.row;
        stands = subst (Contains (p ∷ ps)) (same_pivot p _ refl (sym same))
            (contains_first p ps);
      })))
      ∙ ap (λ v. s.left p.row p.column * v)
      (no_pivot ps c (λ has. none (record { row = has.row; stands = contains_later p _ ps has.stands })))
      ∙ mul_zero R _

  module _ (n m : ℕ) (matrix : ℕ → ℕ → A) where
    pub null_vector_of-is :
        (first : ℕ) (ps : List Pivot) → IsFree R n m matrix first f s ps → IsNullVector R n m matrix f s ps (null_vector_of ps)
    null_vector_of-is first ps free = record {
      nonzero = λ none. all_nonzero ps (λ p found. (free.echelon.cleared p found).nonzero) (sym at_free ∙ none);
      cancels = λ p found.
          ap₂ (λ u v. s.left p.row p.column * u + s.left p.row f * v)
          (ap (λ b. cond b (all_pivots ps) (at_pivot ps p.column))
          (ne_eqb p.column f (λ same. absurd (omega (arith, same, free.echelon.below p found)))))
          at_free
          ∙ cancels_at ps (one_of_column ps free.echelon.in_order) p found;
      others = λ c below other none.
          ap (λ b. cond b (all_pivots ps) (at_pivot ps c)) (ne_eqb c f other) ∙ no_pivot ps c none;
    }
      where
        at_free : null_vector_of ps f ≡ all_pivots ps
        at_free = ap (λ b. cond b (all_pivots ps) (at_pivot ps f)) (eq-eqb f f refl)

-- ---- without names

pub null_vector_of-free :
    (j : Name) (n m : ℕ) (matrix : ℕ → ℕ → Polynomial) (first f : ℕ) (s : State Polynomial) (ps : List Pivot) →
    IsFree polys n m matrix first f s ps → EntriesAreFree j n m s.left → IsFreeOf j (null_vector_of polys polys_domain s f ps f)
null_vector_of-free j n m matrix first f s ps free entries =
    subst (λ b. IsFreeOf j (cond b (all_pivots polys polys_domain s f ps) (at_pivot polys polys_domain s f ps f))) (sym (eq-eqb f f refl))
    (product ps (λ p found. let cleared = free.echelon.cleared p found in entries p.row p.column cleared.row_in_range cleared.column_in_range))
  where
    product : (ps : List Pivot) → ((p : Pivot) → Contains ps p → IsFreeOf j (s.left p.row p.column)) →
        IsFreeOf j (all_pivots polys polys_domain s f ps)
    product [] each = free_one j
    product (p ∷ ps) each =
        free-times j _ _ (each p (contains_first p ps)) (product ps (λ q found. each q (contains_later p q ps found)))
