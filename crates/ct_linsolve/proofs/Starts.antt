-- The rows of [A | I] as loops make them. Main lemmas `unit_start` and `unit_of`, which `with_unit` and `joined` cite.
use Rattle.ct_linsolve.proofs.Base.{◌≡◌, refl, sym, ap, ap₂, ◌∙◌, arith, ℕ, zero, suc, ◌+◌, cond, eqb, List, [], ◌∷◌, ◌++◌, length, map, subst}
use Rattle.ct_linsolve.proofs.Base.{append_assoc, append-nil, length-append, range_with_len, polys}
use Rattle.ct_linsolve.specs.Elimination.{unit_row, with_unit}
use Rattle.ct_linsolve.specs.Rows.{Row, row_at}

-- the entries of a row of the unit matrix from i on, k of them, behind what is done
abbrev pub unit_behind : ℕ → ℕ → ℕ → Row → Row
unit_behind place i zero done = done
unit_behind place i (suc k) done = unit_behind place (i + 1) k (done ++ cond (eqb i place) polys.one polys.zero ∷ [])

unit_from : (place i k : ℕ) (done : Row) → done ++ map (λ k. cond (eqb k place) polys.one polys.zero)
    (range_with_len i k) ≡ unit_behind place i k done
unit_from place i zero done = append-nil done
unit_from place i (suc k) done =
    sym (append_assoc done (cond (eqb i place) polys.one polys.zero ∷ []) _)
    ∙ unit_from place (i + 1) k (done ++ cond (eqb i place) polys.one polys.zero ∷ [])

pub unit_of : (n place : ℕ) (row done : Row) → done ≡ row → row ++ unit_row n place ≡ unit_behind place 0 n done
unit_of n place row done same = ap (λ r. r ++ unit_row n place) (sym same) ∙ unit_from place 0 n done

-- further rows behind those that are done
abbrev pub rows_behind : ℕ → List Row → List Row → List Row
rows_behind n done [] = done
rows_behind n done (r ∷ rs) = rows_behind n (done ++ (r ++ unit_row n (length done)) ∷ []) rs

rows_from :
    (n : ℕ) (all done rest : List Row) (place : ℕ) → place ≡ length done → ((j : ℕ) → row_at all (place + j) ≡ row_at rest j) →
    done ++ map (λ r. row_at all r ++ unit_row n r) (range_with_len place (length rest)) ≡ rows_behind n done rest
rows_from n all done [] place is same = append-nil done
rows_from n all done (r ∷ rs) place is same =
    let here : row_at all place ++ unit_row n place ≡ r ++ unit_row n (length done) =
    ap₂ (λ w k. w ++ unit_row n k) (ap (row_at all) (let same : place ≡ place + 0 = omega arith in same) ∙ same 0) is in
    ap (λ w. done ++ w ∷ map (λ r. row_at all r ++ unit_row n r) (range_with_len (place + 1) (length rs))) here
    ∙ sym (append_assoc done ((r ++ unit_row n (length done)) ∷ []) _)
    ∙ rows_from n all (done ++ (r ++ unit_row n (length done)) ∷ []) rs (place + 1)
    (omega (arith, is, length-append done ((r ++ unit_row n (length done)) ∷ [])))
    (λ j. ap (row_at all) (let same : place + 1 + j ≡ place + suc j = omega arith in same) ∙ same (suc j))

pub unit_start : (n : ℕ) (rows done : List Row) → n ≡ length rows → done ≡ [] → with_unit rows ≡ rows_behind n done rows
unit_start n rows done is none =
    subst (λ d. with_unit rows ≡ rows_behind n d rows) (sym none)
    (rows_from (length rows) rows [] rows 0 refl (λ j. ap (row_at rows) (let same : 0 + j ≡ j = omega arith in same))
    ∙ ap (λ k. rows_behind k [] rows) (sym is))
