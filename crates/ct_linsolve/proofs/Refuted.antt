-- The rows that are chosen refute: main lemmas `rows_refute`, and `listed_from` for the loop that lists them.
-- An echelon form of one matrix is one of every matrix that the right side makes the left side of.
use Rattle.ct_linsolve.proofs.Base.{◌≡◌, ◌⊎◌, inl, inr, refl, ℕ, zero, suc, ◌+◌, ◌-◌, ◌<◌, ◌≤◌, Bool, true, false, cond, eqb, Some, None, List, []}
use Rattle.ct_linsolve.proofs.Base.{◌∷◌, ◌++◌, length, map, sym, ◌∙◌, ap, subst, arith, append_assoc, append-nil, eqb-true, Contains, range_with_len}
use Rattle.ct_linsolve.proofs.Base.{eqb-false, get_or-map-range_with_len, Polynomial, polys, Pivot, AreInOrder, IsEchelon, IsElimination, KeepsMatrix}
use Rattle.ct_linsolve.proofs.Base.{matrix_of}
use Rattle.ct_linsolve.proofs.Base.{Refutes, Isolates, finished, contains_none, contains_cases}
use Rattle.std.proofs.Math.Logic.{∥∥₁_elim}
use Rattle.ct_linsolve.specs.EchelonForm.{IsEchelonOf, IsEchelonForm, IsGiven, sides}
use Rattle.ct_linsolve.specs.Elimination.{Eliminated}
use Rattle.ct_linsolve.specs.Refuting.{pivot_of, right_part, refuting_row, refuting_rows, column_row}
use Rattle.ct_linsolve.specs.Rows.{Row, entry}

-- the values of a function from a number on, k of them, behind what is done
abbrev pub listed_behind : {X : Type 0} → (ℕ → X) → ℕ → ℕ → List X → List X
listed_behind f a zero done = done
listed_behind f a (suc k) done = listed_behind f (a + 1) k (done ++ f a ∷ [])

pub listed_from : {X : Type 0} (f : ℕ → X) (a k : ℕ) (done : List X) → done ++ map f (range_with_len a k) ≡ listed_behind f a k done
listed_from f a zero done = append-nil done
listed_from f a (suc k) done = sym (append_assoc done (f a ∷ []) _) ∙ listed_from f (a + 1) k (done ++ f a ∷ [])

pub listed_more :
    {X : Type 0} (f : ℕ → X) (a k : ℕ) (done more : List X) → 0 < k → more ≡ done ++ f a ∷ [] →
    listed_behind f a k done ≡ listed_behind f (a + 1) (k - 1) more
listed_more f a zero done more some is = absurd (omega (arith, some))
listed_more f a (suc k) done more some is =
    let same : k ≡ suc k - 1 = omega arith in λ i. listed_behind f (a + 1) (same i) (sym is i)

-- the pivot of its column is found
pub pivot_found : (ps : List Pivot) (p : Pivot) → AreInOrder ps → Contains ps p → pivot_of p.column ps ≡ Some p
pivot_found [] p order has = absurd (contains_none p has)
pivot_found (q ∷ ps) p order has = by (eqb q.column p.column) refl (contains_cases q p ps has) (pivot_found ps p order.1)
  where
    by : (b : Bool) → eqb q.column p.column ≡ b → (q ≡ p) ⊎ Contains ps p → (Contains ps p → pivot_of p.column ps ≡ Some p)
        → cond b (Some q) (pivot_of p.column ps) ≡ Some p
    by true is (inl same) later = ap (λ q. Some q) same
    by true is (inr there) later = absurd (omega (arith, (order.0 p there).0, eqb-true q.column p.column is))
    by false other (inl same) later = absurd (eqb-false q.column p.column other (ap (λ q. q.column) same))
    by false other (inr there) later = later there

-- with other multipliers, of another matrix too
pub moved :
    (certs m done : ℕ) (A : ℕ → ℕ → Polynomial) (e : Eliminated) (B right : ℕ → ℕ → Polynomial) →
    KeepsMatrix polys (length e.left) m A (record { left = matrix_of polys.zero e.left; right = right }) →
    IsEchelon polys (length e.left) m B certs done (sides e.left e.right) e.pivots →
    IsEchelon polys (length e.left) m A certs done (record { left = matrix_of polys.zero e.left; right = right }) e.pivots
moved certs m done A e B right keeps is = record {
  keeps = keeps;
  below = is.below;
  in_order = is.in_order;
  cleared = λ p has. let was = is.cleared p has in
      record { row_in_range = was.row_in_range; column_in_range = was.column_in_range; nonzero = was.nonzero; elsewhere = was.elsewhere };
  staggered = is.staggered;
  unused_zero = is.unused_zero;
  chosen = is.chosen;
}

module _ (certs m : ℕ) (A : ℕ → ℕ → Polynomial) (e : Eliminated) (given : IsGiven m A e) where
  abbrev n : ℕ
  n = length e.left

  Isolates-prop : (u : ℕ → Polynomial) (g : ℕ) → IsProp (Isolates polys n m A u g)
  Isolates-prop u g = hlevel polys.is_set

  refuted :
      (rows : List Row) → rows ≡ refuting_rows certs m e.right e.pivots → e.free ≡ None → (B : ℕ → ℕ → Polynomial) → IsEchelonOf n certs m B e →
      Refutes polys n m A (λ c. certs ≤ c) (column_row rows certs)
  refuted rows rows_are none B of =
      let was = subst (λ o. IsElimination polys n m B certs o (sides e.left e.right) e.pivots) none of.elimination in
      let is = moved certs m m A e B (matrix_of polys.zero e.right) (record { gives = given; injective = was.keeps.injective }) was in
      (finished n m A certs (sides e.left e.right) e.pivots).refutes is (column_row rows certs) (λ p has past k small. row_is p (is.below p has)
      (pivot_found e.pivots p is.in_order has) past k)
    where
      row_is : (p : Pivot) → p.column < m → pivot_of p.column e.pivots ≡ Some p → certs ≤ p.column → (k : ℕ) →
          column_row rows certs p.column k ≡ matrix_of polys.zero e.right p.row k
      row_is p below found past k =
          ap (λ rs. column_row rs certs p.column k) rows_are
          ∙ ap (λ r. entry r k) (get_or-map-range_with_len (refuting_row e.right e.pivots) certs (m - certs) (p.column - certs) p.column []
          (omega (arith, below, past)) (omega (arith, past)))
          ∙ ap (λ o. entry (right_part e.right o) k) found

  pub rows_refute :
      (rows : List Row) → rows ≡ refuting_rows certs m e.right e.pivots → e.free ≡ None → ∥ IsEchelonForm certs m e ∥₁ →
      Refutes polys n m A (λ c. certs ≤ c) (column_row rows certs)
  rows_refute rows rows_are none form c small past =
      ∥∥₁_elim form (Isolates-prop (column_row rows certs c) c) (λ of. refuted rows rows_are none of.0 of.1 c small past)
