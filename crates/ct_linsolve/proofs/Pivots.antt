-- Pivots: where they are found, and that neither their entries nor the primitive forms of these are zero. Main lemmas `told_zero`,
-- `form_nonzero`, `seek_is`, `found_pivot`, `no_pivot`, `column_keeps`.
use Rattle.ct_linsolve.proofs.Base.{◌≡◌, ◌≢◌, ◌↔◌, ◌⊎◌, inl, inr, refl, ℕ, suc, ◌+◌, ◌<◌, Bool, true, false, cond, eqb, ltb, not, ◌&&◌, ◌||◌, IsTrue}
use Rattle.ct_linsolve.proofs.Base.{Ok, Some, None, Option, List, [], ◌∷◌, ◌++◌, length, sym, ◌∙◌, ap, subst, arith, eqb-true, eqb-false, Contains}
use Rattle.ct_linsolve.proofs.Base.{find, range_with_len, Polynomial, polys, polys_domain, norm, none, both_fit, primitive_form, content, Pivot}
use Rattle.ct_linsolve.proofs.Base.{IsUnused, contains_none, contains_cases, contains_first, contains_later}
use Rattle.ct_poly.proofs.PrimitiveParts.{form_primitive}
use Rattle.ct_linsolve.specs.Elimination.{Working, is_used, is_pivot_row, pivot_row, without_pivot, by_pivot, unless_free, checked_pivot}
use Rattle.ct_linsolve.specs.Elimination.{checked_rows, checked_column}
use Rattle.ct_linsolve.specs.Rows.{Row, entry, row_at}
use Rattle.ct_linsolve.proofs.FromZero.{found, none_found}

pub told_zero : (p : Polynomial) (b : Bool) → IsTrue b ↔ (p ≡ polys.zero) → b ≡ polys.is_zero p
told_zero p true told = sym (ap polys.is_zero (told.0 refl) ∙ polys.zero_true)
told_zero p false told = by (polys.is_zero p) refl
  where
    by : (b : Bool) → polys.is_zero p ≡ b → false ≡ polys.is_zero p
    by true empty = told.1 (polys.true_zero p empty) ∙ sym empty
    by false other = sym other

not_zero_is : (p : Polynomial) → polys.is_zero p ≡ false → p ≢ polys.zero
not_zero_is p other vanishes = let empty : polys.is_zero p ≡ true = ap polys.is_zero vanishes ∙ polys.zero_true in cc

zero_content : content polys.zero ≡ 0
unfolding content norm none
zero_content = refl

pub form_nonzero : (p : Polynomial) → p ≢ polys.zero → primitive_form p ≢ polys.zero
form_nonzero p some vanishes = omega (arith, (form_primitive p some).0, ap content vanishes, zero_content)

pub one_nonzero : polys.one ≢ polys.zero
one_nonzero = polys_domain.proper

-- ---- the search, row by row

abbrev pub seek : ℕ → List Pivot → ℕ → List Row → Option ℕ
seek c ps place [] = None
seek c ps place (r ∷ rs) = cond (not (is_used place ps) && not (polys.is_zero (entry r c))) (Some place) (seek c ps (place + 1) rs)

seek_from :
    (c : ℕ) (ps : List Pivot) (all : List Row) (place : ℕ) (rest : List Row) →
    ((j : ℕ) → row_at all (place + j) ≡ row_at rest j) →
    find (is_pivot_row c ps all) (range_with_len place (length rest)) ≡ seek c ps place rest
seek_from c ps all place [] same = refl
seek_from c ps all place (r ∷ rs) same =
    let here : row_at all place ≡ r = ap (row_at all) (let same : place ≡ place + 0 = omega arith in same) ∙ same 0 in
    let later = seek_from c ps all (place + 1) rs (λ j. ap (row_at all) (let same : place + 1 + j ≡ place + suc j = omega arith in same)
    ∙ same (suc j)) in
    λ i. cond (not (is_used place ps) && not (polys.is_zero (entry (here i) c))) (Some place) (later i)

pub seek_is : (c : ℕ) (ps : List Pivot) (rows : List Row) → pivot_row c ps rows ≡ seek c ps 0 rows
seek_is c ps rows = seek_from c ps rows 0 rows (λ j. ap (row_at rows) (let same : 0 + j ≡ j = omega arith in same))

-- ---- what is found

used_by : (r : ℕ) (ps : List Pivot) → is_used r ps ≡ false → IsUnused r ps
used_by r [] unused p has = absurd (contains_none p has)
used_by r (p ∷ ps) unused q has = by (eqb r p.row) refl unused (contains_cases p q ps has) (used_by r ps)
  where
    by : (b : Bool) → eqb r p.row ≡ b → (b || is_used r ps) ≡ false → (p ≡ q) ⊎ Contains ps q → (is_used r ps ≡ false → IsUnused r ps) → r ≢ q.row
    by true is unused there later = cc
    by false other unused (inl same) later = λ e. eqb-false r p.row other (e ∙ ap (λ w. w.row) (sym same))
    by false other unused (inr found) later = later unused q found

unused_is : (r : ℕ) (ps : List Pivot) → IsUnused r ps → is_used r ps ≡ false
unused_is r [] unused = refl
unused_is r (p ∷ ps) unused = by (eqb r p.row) refl (unused_is r ps (λ q has. unused q (contains_later p q ps has)))
  where
    by : (b : Bool) → eqb r p.row ≡ b → is_used r ps ≡ false → (b || is_used r ps) ≡ false
    by true is later = absurd (unused p (contains_first p ps) (eqb-true r p.row is))
    by false other later = later

pub record IsPivotRow (c : ℕ) (ps : List Pivot) (rows : List Row) (q : ℕ) : Type 0 where
  pub in_range : q < length rows
  pub unused : IsUnused q ps
  pub nonzero : entry (row_at rows q) c ≢ polys.zero

both_true : (a b : Bool) → (not a && not b) ≡ true → (a ≡ false) × (b ≡ false)
both_true true b is = cc
both_true false true is = cc
both_true false false is = (refl, refl)

pub found_pivot : (c : ℕ) (ps : List Pivot) (rows : List Row) (q : ℕ) → pivot_row c ps rows ≡ Some q → IsPivotRow c ps rows q
found_pivot c ps rows q is =
    let there = found (is_pivot_row c ps rows) 0 (length rows) q is in
    let both = both_true (is_used q ps) (polys.is_zero (entry (row_at rows q) c)) there.passes in
    record { in_range = omega (arith, there.below); unused = used_by q ps both.0; nonzero = not_zero_is _ both.1 }

pub no_pivot :
    (c : ℕ) (ps : List Pivot) (rows : List Row) → pivot_row c ps rows ≡ None → (r : ℕ) → r < length rows → IsUnused r ps →
    entry (row_at rows r) c ≡ polys.zero
no_pivot c ps rows is r below unused =
    by (polys.is_zero (entry (row_at rows r) c)) refl
    (ap (λ b. not b && not (polys.is_zero (entry (row_at rows r) c))) (sym (unused_is r ps unused))
    ∙ none_found (is_pivot_row c ps rows) 0 (length rows) r is (omega arith) (omega (arith, below)))
  where
    by : (b : Bool) → polys.is_zero (entry (row_at rows r) c) ≡ b → not b ≡ false → entry (row_at rows r) c ≡ polys.zero
    by true is none = polys.true_zero _ is
    by false is none = cc

-- ---- a column

pub pivot_prev : (c q : ℕ) (s t : Working) → checked_pivot c q s ≡ Ok t → t.prev ≡ entry (row_at s.rows q) c
unfolding checked_pivot
pivot_prev c q s t fits =
    let both = both_fit (checked_rows c q s.prev s.rows) _ t fits in
    let end : Working = record {
      rows = both.value;
      pivots = s.pivots ++ record { row = q; column = c } ∷ [];
      prev =
          entry (row_at s.rows q) c;
      free = None;
    } in
    let same : end ≡ t = cc in sym (ap (λ w. w.prev) same)

pub column_keeps : (certs c : ℕ) (s t : Working) → s.prev ≢ polys.zero → checked_column certs s c ≡ Ok t → t.prev ≢ polys.zero
unfolding checked_column
column_keeps certs c s t some fits = by s.free (pivot_row c s.pivots s.rows) refl fits
  where
    passed : (b : Bool) → cond b s (record { rows = s.rows; pivots = s.pivots; prev = s.prev; free = Some c }) ≡ t → t.prev ≢ polys.zero
    passed true same = subst (λ w. w.prev ≢ polys.zero) same some
    passed false same = subst (λ w. w.prev ≢ polys.zero) same some

    by : (f o : Option ℕ) → pivot_row c s.pivots s.rows ≡ o → unless_free f s (by_pivot certs c s o) ≡ Ok t → t.prev ≢ polys.zero
    by (Some f) o is fits = let same : s ≡ t = cc in subst (λ w. w.prev ≢ polys.zero) same some
    by None None is fits = let same : without_pivot certs c s ≡ t = cc in passed (ltb c certs) same
    by None (Some q) is fits = λ vanishes. (found_pivot c s.pivots s.rows q is).nonzero (sym (pivot_prev c q s t fits) ∙ vanishes)
