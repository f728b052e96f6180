-- Lists of pivots: whether a row or a column has one, that it has only one (`one_of_row`, `one_of_column`), and one more pivot
-- at the end (`in_order-push`).
use Rattle.ct_telescoping.proofs.Base.{◌≡◌, ◌≢◌, ℕ, ◌<◌, List, [], ◌∷◌, ◌++◌, ◌⊎◌, Contains, refl, sym, inl, inr, subst, ap, ◌∙◌, arith}
use Rattle.ct_telescoping.proofs.Base.{Contains-push_cases}
use Rattle.ct_telescoping.specs.Echelon.{Pivot, IsUnused, HasPivot, AreInOrder}
use Rattle.ct_telescoping.proofs.ListParts.{contains_first, contains_later, contains_cases, contains_none}
use native.Mathlib.Decide.{ℕ_discrete}

pub same_pivot : (p q : Pivot) → p.row ≡ q.row → p.column ≡ q.column → p ≡ q
same_pivot p q rows columns = λ i. record { row = rows i; column = columns i }

-- a row with its pivot, or without one
pub row_used : (r : ℕ) (ps : List Pivot) → ((p : Pivot) × Contains ps p × (r ≡ p.row)) ⊎ IsUnused r ps
row_used r [] = inr (λ p found. absurd (contains_none p found))
row_used r (p ∷ ps) = by (ℕ_discrete r p.row) (row_used r ps)
  where
    by : Dec (r ≡ p.row) → ((q : Pivot) × Contains ps q × (r ≡ q.row)) ⊎ IsUnused r ps
        → ((q : Pivot) × Contains (p ∷ ps) q × (r ≡ q.row)) ⊎ IsUnused r (p ∷ ps)
    by (yes same) rest = inl (p, contains_first p ps, same)
    by (no other) (inl later) = inl (later.0, contains_later p later.0 ps later.1, later.2)
    by (no other) (inr none) = inr (λ q found. unused q (contains_cases p q ps found))
      where
        unused : (q : Pivot) → (p ≡ q) ⊎ Contains ps q → r ≢ q.row
        unused q (inl same) e = other (e ∙ ap (λ x. x.row) (sym same))
        unused q (inr found) e = none q found e

-- a column with its pivot, or without one
pub column_used : (c : ℕ) (ps : List Pivot) → HasPivot c ps ⊎ (¬ HasPivot c ps)
column_used c [] = inr (λ has. contains_none _ has.stands)
column_used c (p ∷ ps) = by (ℕ_discrete c p.column) (column_used c ps)
  where
    by : Dec (c ≡ p.column) → HasPivot c ps ⊎ (¬ HasPivot c ps) → HasPivot c (p ∷ ps) ⊎ (¬ HasPivot c (p ∷ ps))
    by (yes same) rest =
        inl (record { row = p.row; stands = subst (Contains (p ∷ ps)) (same_pivot p _ refl (sym same)) (contains_first p ps) })
    by (no other) (inl has) = inl (record { row = has.row; stands = contains_later p _ ps has.stands })
    by (no other) (inr none) = inr (λ has. unused has (contains_cases p _ ps has.stands))
      where
        unused : (has : HasPivot c (p ∷ ps)) → (p ≡ record { row = has.row; column = c }) ⊎ Contains ps (record { row = has.row; column = c }) → ⊥
        unused has (inl same) = other (sym (ap (λ x. x.column) same))
        unused has (inr found) = none (record { row = has.row; stands = found })

-- ---- pivots in order

-- what differs along the list tells its pivots apart
told_apart :
    (of : Pivot → ℕ) → ((p q : Pivot) → (p.column < q.column) × (p.row ≢ q.row) → of p ≢ of q) → (ps : List Pivot) → AreInOrder ps →
    (p q : Pivot) → Contains ps p → Contains ps q → of p ≡ of q → p ≡ q
told_apart of apart [] order p q found other same = absurd (contains_none p found)
told_apart of apart (x ∷ xs) order p q found other same =
    by (contains_cases x p xs found) (contains_cases x q xs other) (told_apart of apart xs order.1 p q)
  where
    by : (x ≡ p) ⊎ Contains xs p → (x ≡ q) ⊎ Contains xs q → (Contains xs p → Contains xs q → of p ≡ of q → p ≡ q) → p ≡ q
    by (inl first) (inl also) rest = sym first ∙ also
    by (inl first) (inr later) rest = absurd (apart x q (order.0 q later) (ap of first ∙ same))
    by (inr later) (inl also) rest = absurd (apart x p (order.0 p later) (ap of also ∙ sym same))
    by (inr later) (inr too) rest = rest later too same

pub one_of_row : (ps : List Pivot) → AreInOrder ps → (p q : Pivot) → Contains ps p → Contains ps q → p.row ≡ q.row → p ≡ q
one_of_row = told_apart (λ p. p.row) (λ p q apart. apart.1)

pub one_of_column : (ps : List Pivot) → AreInOrder ps → (p q : Pivot) → Contains ps p → Contains ps q → p.column ≡ q.column → p ≡ q
one_of_column = told_apart (λ p. p.column) (λ p q apart same. absurd (omega (arith, apart.0, same)))

pub in_order-push :
    (ps : List Pivot) (q : Pivot) → AreInOrder ps →
    ((p : Pivot) → Contains ps p → (p.column < q.column) × (p.row ≢ q.row)) → AreInOrder (ps ++ q ∷ [])
in_order-push [] q order before = (λ p found. absurd (contains_none p found), tt)
in_order-push (x ∷ xs) q order before =
    (λ p found. by p (Contains-push_cases xs q p found), in_order-push xs q order.1 (λ p found. before p (contains_later x p xs found)))
  where
    by : (p : Pivot) → Contains xs p ⊎ (q ≡ p) → (x.column < p.column) × (x.row ≢ p.row)
    by p (inl found) = order.0 p found
    by p (inr same) = subst (λ r. (x.column < r.column) × (x.row ≢ r.row)) same (before x (contains_first x xs))
