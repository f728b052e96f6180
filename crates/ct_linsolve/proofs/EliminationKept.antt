-- Elimination is one of ct_telescoping's, so what is proved there holds of it: main lemmas `seen` and `echelon_form`, which
-- `eliminate` cites. By induction on the columns: each with a pivot is a `Step` of both parts of the rows.
use Rattle.ct_linsolve.proofs.Base.{◌≡◌, ◌≢◌, refl, ℕ, zero, suc, ◌+◌, ◌-◌, ◌<◌, Bool, true, false, cond, eqb, ltb, Option, Some, None, Ok, List, []}
use Rattle.ct_linsolve.proofs.Base.{◌∷◌, ◌++◌, length, map, take, drop, sym, ◌∙◌, ap, ap₂, subst, arith, length-append, All, range_with_len, ltb-true}
use Rattle.ct_linsolve.proofs.Base.{ltb-false, length-map, get_or-map, get_or-take, get_or-drop, get_or-append-add, get_or_append_left}
use Rattle.ct_linsolve.proofs.Base.{length-take-le, length-drop, get_or-map-range_with_len, length-map-range_with_len, Polynomial, polys, ◌>>=◌}
use Rattle.ct_linsolve.proofs.Base.{both_fit, checked_fold, Pivot, IsUnused, IsEchelon, IsFree, IsElimination, State, Step, KeepsMatrix, first_state}
use Rattle.ct_linsolve.proofs.Base.{matrix_of, contains_none, by_columns, finished}
use Rattle.std.proofs.lemmas.List.Elements.{All-map}
use Rattle.ct_algebra.specs.Names.{Name}
use Rattle.ct_algebra.specs.FreeOf.{IsFreeOf}
use Rattle.ct_algebra.specs.Laws.RangeSums.{sum_below-same}
use Rattle.ct_telescoping.specs.EliminationLaws.{GoesByColumns}
use Rattle.ct_telescoping.specs.EntriesFree.{EntriesAreFree}
use Rattle.ct_linsolve.specs.EchelonForm.{IsEchelonOf, IsEchelonForm, sides}
use Rattle.ct_linsolve.specs.Elimination.{Working, Eliminated, unit_row, with_unit, pivot_row, without_pivot, by_pivot, unless_free, checked_pivot}
use Rattle.ct_linsolve.specs.Elimination.{checked_rows, checked_column, start, parted, checked_elimination}
use Rattle.ct_linsolve.specs.Rows.{Row, entry, row_at}
use Rattle.ct_linsolve.proofs.Pivots.{IsPivotRow, found_pivot, no_pivot, one_nonzero}
use Rattle.ct_linsolve.proofs.RowSteps.{AreRowSteps, rows_step}
use native.Mathlib.Decide.{ℕ_discrete}

-- ---- both parts of the rows

take_none : (m : ℕ) → ◌≡◌ {A = Row} (take m []) []
take_none zero = refl
take_none (suc m) = refl

drop_none : (m : ℕ) → ◌≡◌ {A = Row} (drop m []) []
drop_none zero = refl
drop_none (suc m) = refl

mapped : (f : Row → Row) → f [] ≡ [] → (rows : List Row) (r : ℕ) → row_at (map f rows) r ≡ f (row_at rows r)
mapped f none [] r = sym none
mapped f none (x ∷ xs) zero = refl
mapped f none (x ∷ xs) (suc r) = mapped f none xs r

abbrev parts : ℕ → List Row → State Polynomial
parts m rows = sides (map (take m) rows) (map (drop m) rows)

left_at : (m : ℕ) (rows : List Row) (r k : ℕ) → k < m → (parts m rows).left r k ≡ entry (row_at rows r) k
left_at m rows r k small = ap (λ w. entry w k) (mapped (take m) (take_none m) rows r) ∙ get_or-take m (row_at rows r) k polys.zero small

right_at : (m : ℕ) (rows : List Row) (r k : ℕ) → (parts m rows).right r k ≡ entry (row_at rows r) (m + k)
right_at m rows r k = ap (λ w. entry w k) (mapped (drop m) (drop_none m) rows r) ∙ get_or-drop m (row_at rows r) k polys.zero

module _ (n m : ℕ) (A : ℕ → ℕ → Polynomial) where
  -- n rows of m entries and n more
  pub record AreFilled (rows : List Row) : Type 0 where
    pub many : length rows ≡ n
    pub long : (r : ℕ) → r < n → length (row_at rows r) ≡ m + n

  filled_after : (c q : ℕ) (rows ts : List Row) → AreFilled rows → AreRowSteps c q rows ts → AreFilled ts
  filled_after c q rows ts filled steps = record { many = steps.lengths ∙ filled.many; long = λ r small. by r small (ℕ_discrete r q) }
    where
      by : (r : ℕ) → r < n → Dec (r ≡ q) → length (row_at ts r) ≡ m + n
      by r small (yes same) = ap (λ k. length (row_at ts k)) same ∙ ap length steps.kept ∙ ap (λ k. length (row_at rows k)) (sym same)
          ∙ filled.long r small
      by r small (no other) = (steps.others r (omega (arith, small, filled.many)) other).lengths ∙ filled.long r small

  -- a column with its pivot is a step
  is_step :
      (c q : ℕ) (rows ts : List Row) → AreFilled rows → q < n → c < m → entry (row_at rows q) c ≢ polys.zero → AreRowSteps c q rows ts →
      Step polys n m A (parts m rows) (parts m ts) q c
  is_step c q rows ts filled below within nonzero steps = record {
    row_in_range = below;
    column_in_range = within;
    pivot_nonzero = λ vanishes. nonzero (sym (left_at m rows q c within) ∙ vanishes);
    left_kept = λ k small. left_at m ts q k small ∙ ap (λ w. entry w k) steps.kept ∙ sym (left_at m rows q k small);
    right_kept = λ k small. right_at m ts q k ∙ ap (λ w. entry w (m + k)) steps.kept ∙ sym (right_at m rows q k);
    others = λ r small other.
        let step = steps.others r (omega (arith, small, filled.many)) other in
        let long = filled.long r small in
        record {
          factor = step.factor;
          factor_nonzero = step.nonzero;
          left_is = λ k kept.
              (λ i. polys.◌+◌ (polys.◌*◌ (left_at m rows q c within i) (left_at m rows r k kept i))
              (polys.neg (polys.◌*◌ (left_at m rows r c within i) (left_at m rows q k kept i))))
              ∙ step.entries k (omega (arith, kept, long)) ∙ ap (polys.◌*◌ step.factor) (sym (left_at m ts r k kept));
          right_is = λ k kept.
              (λ i. polys.◌+◌ (polys.◌*◌ (left_at m rows q c within i) (right_at m rows r k i))
              (polys.neg (polys.◌*◌ (left_at m rows r c within i) (right_at m rows q k i))))
              ∙ step.entries (m + k) (omega (arith, kept, long)) ∙ ap (polys.◌*◌ step.factor) (sym (right_at m ts r k));
        };
  }

  module _ (certs : ℕ) where
    abbrev laws : GoesByColumns n m A certs
    laws = by_columns n m A certs

    -- the columns below `done` are done, or those up to the free one
    abbrev pub IsSoFar : Option ℕ → ℕ → List Row → List Pivot → Type 0
    IsSoFar None done rows ps = IsEchelon polys n m A certs done (parts m rows) ps
    IsSoFar (Some f) done rows ps = IsFree polys n m A certs f (parts m rows) ps

    record IsGood (done : ℕ) (s : Working) : Type 0 where
      pub filled : AreFilled s.rows
      pub prev : s.prev ≢ polys.zero
      pub so_far : IsSoFar s.free done s.rows s.pivots
      pub names :
          (j : Name) → EntriesAreFree j n m A →
          EntriesAreFree j n m (parts m s.rows).left × EntriesAreFree j n n (parts m s.rows).right

    with_free : Option ℕ → Working → Working
    with_free free s = record { rows = s.rows; pivots = s.pivots; prev = s.prev; free = free }

    -- with a pivot
    pivot_good :
        (done q : ℕ) (s t : Working) → done < m → s.free ≡ None → IsPivotRow done s.pivots s.rows q → checked_pivot done q s ≡ Ok t →
        IsGood done s → IsGood (suc done) t
    unfolding checked_pivot
    pivot_good done q s t within none is fits good =
        let both = both_fit (checked_rows done q s.prev s.rows)
        (λ rows. Ok (record {
          rows = rows;
          pivots = s.pivots ++ record { row = q; column = done } ∷ [];
          prev =
              entry (row_at s.rows q) done;
          free = None;
        }))
        t fits in
        let end : Working = record {
          rows = both.value;
          pivots = s.pivots ++ record { row = q; column = done } ∷ [];
          prev =
              entry (row_at s.rows q) done;
          free = None;
        } in
        let same : end ≡ t = cc in
        let steps = rows_step done q s.prev s.rows both.value good.prev is.in_range both.first in
        let step = is_step done q s.rows both.value good.filled (omega (arith, is.in_range, good.filled.many)) within is.nonzero steps in
        subst (IsGood (suc done)) same (record {
          filled = filled_after done q s.rows both.value good.filled steps;
          prev = is.nonzero;
          so_far = laws.takes_pivot done (parts m s.rows) (parts m both.value) q s.pivots is.unused step
              (subst (λ o. IsSoFar o done s.rows s.pivots) none good.so_far);
          names = λ j free. let before = good.names j free in
              laws.names_kept j (parts m s.rows) (parts m both.value) q done step before.0 before.1;
        })

    -- without one
    passed_good :
        (done : ℕ) (s t : Working) → done < m → s.free ≡ None → pivot_row done s.pivots s.rows ≡ None →
        without_pivot certs done s ≡ t → IsGood done s → IsGood (suc done) t
    passed_good done s t within none absent passes good = by (ltb done certs) refl passes
      where
        zeros : (r : ℕ) → r < n → IsUnused r s.pivots → (parts m s.rows).left r done ≡ polys.zero
        zeros r small unused = left_at m s.rows r done within ∙ no_pivot done s.pivots s.rows absent r (omega (arith, small, good.filled.many)) unused

        echelon : IsEchelon polys n m A certs done (parts m s.rows) s.pivots
        echelon = subst (λ o. IsSoFar o done s.rows s.pivots) none good.so_far

        by : (b : Bool) → ltb done certs ≡ b
            → cond b s (record { rows = s.rows; pivots = s.pivots; prev = s.prev; free = Some done }) ≡ t → IsGood (suc done) t
        by true early same = subst (IsGood (suc done)) same (record {
          filled = good.filled;
          prev = good.prev;
          so_far = subst (λ o. IsSoFar o (suc done) s.rows s.pivots) (sym none)
              (laws.passes done (parts m s.rows) s.pivots (ltb-true done certs early) zeros echelon);
          names = good.names;
        })
        by false late same = subst (IsGood (suc done)) same (record {
          filled = good.filled;
          prev = good.prev;
          so_far = record { of_telescoper = ltb-false done certs late; in_range = within; echelon = echelon; zero_there = zeros };
          names = good.names;
        })

    column_good :
        (done : ℕ) (s t : Working) → done < m → checked_column certs s done ≡ Ok t → IsGood done s → IsGood (suc done) t
    unfolding checked_column
    column_good done s t within fits good = by s.free (pivot_row done s.pivots s.rows) refl refl fits
      where
        by : (f o : Option ℕ) → s.free ≡ f → pivot_row done s.pivots s.rows ≡ o → unless_free f s (by_pivot certs done s o) ≡ Ok t
            → IsGood (suc done) t
        by (Some f) o is found fits = let same : s ≡ t = cc in subst (IsGood (suc done)) same (record {
          filled = good.filled;
          prev = good.prev;
          so_far = subst (λ o. IsSoFar o (suc done) s.rows s.pivots) (sym is) (subst (λ o. IsSoFar o done s.rows s.pivots) is good.so_far);
          names = good.names;
        })
        by None None is found fits = let same : without_pivot certs done s ≡ t = cc in passed_good done s t within is found same good
        by None (Some q) is found fits = pivot_good done q s t within is (found_pivot done s.pivots s.rows q found) fits good

    columns_good :
        (k done : ℕ) (s t : Working) → done + k ≡ m → checked_fold (checked_column certs) s (range_with_len done k) ≡ Ok t →
        IsGood done s → IsGood m t
    columns_good zero done s t all fits good =
        let same : s ≡ t = cc in
        subst (λ c. IsGood c t) (let whole : done ≡ m = omega (arith, all) in whole) (subst (IsGood done) same good)
    columns_good (suc k) done s t all fits good =
        let both = both_fit (checked_column certs s done) (λ u. checked_fold (checked_column certs) u (range_with_len (done + 1) k)) t fits in
        columns_good k (done + 1) both.value t (omega (arith, all)) both.rest
        (subst (λ c. IsGood c both.value) (let next : suc done ≡ done + 1 =
        omega arith in next) (column_good done s both.value (omega (arith, all)) both.first good))

-- ---- the start

module _ (m : ℕ) (rows : List Row) (filled : All (λ row. length row ≡ m) rows) where
  abbrev n : ℕ
  n = length rows

  abbrev A : ℕ → ℕ → Polynomial
  A = matrix_of polys.zero rows

  joined_row : (r : ℕ) → r < n → row_at (with_unit rows) r ≡ row_at rows r ++ unit_row n r
  joined_row r small = get_or-map-range_with_len (λ r. row_at rows r ++ unit_row n r) 0 n r r [] small (omega arith)

  row_long : (r : ℕ) → r < n → length (row_at rows r) ≡ m
  row_long r small = filled r [] small

  start_left : (r k : ℕ) → r < n → k < m → (parts m (with_unit rows)).left r k ≡ A r k
  start_left r k small kept =
      left_at m (with_unit rows) r k kept ∙ ap (λ w. entry w k) (joined_row r small)
      ∙ get_or_append_left (row_at rows r) (unit_row n r) polys.zero k (omega (arith, kept, row_long r small))

  start_right : (r k : ℕ) → r < n → k < n → (parts m (with_unit rows)).right r k ≡ cond (eqb k r) polys.one polys.zero
  start_right r k small kept =
      right_at m (with_unit rows) r k ∙ ap (λ w. entry w (m + k)) (joined_row r small)
      ∙ ap (λ l. entry (row_at rows r ++ unit_row n r) (l + k)) (sym (row_long r small))
      ∙ get_or-append-add (row_at rows r) (unit_row n r) k polys.zero
      ∙ get_or-map-range_with_len (λ k. cond (eqb k r) polys.one polys.zero) 0 n k k polys.zero kept (omega arith)

  first : State Polynomial
  first = first_state polys n m A

  start_keeps : KeepsMatrix polys n m A (first_state polys n m A) → KeepsMatrix polys n m A (parts m (with_unit rows))
  start_keeps keeps = record {
    gives = λ r small c within.
        sum_below-same polys.group n _ _ (λ k l. ap (λ v. polys.◌*◌ v (A k c)) (start_right r k small l)) ∙ keeps.gives r small c within
        ∙ sym (start_left r c small within);
    injective = λ y annuls. keeps.injective y (λ r small.
        sum_below-same polys.group n _ _ (λ k l. ap (λ v. polys.◌*◌ v (y k)) (sym (start_right r k small l))) ∙ annuls r small);
  }

  start_good : (certs : ℕ) → IsGood n m A certs 0 (start rows)
  start_good certs =
      let laws : GoesByColumns n m A certs = by_columns n m A certs in
      record {
        filled = record {
          many = length-map-range_with_len (λ r. row_at rows r ++ unit_row n r) 0 n;
          long = λ r small.
              ap length (joined_row r small) ∙ length-append (row_at rows r) (unit_row n r)
              ∙ ap₂ ◌+◌ (row_long r small) (length-map-range_with_len (λ k. cond (eqb k r) polys.one polys.zero) 0 n);
        };
        prev = one_nonzero;
        so_far = record {
          keeps = start_keeps laws.starts.keeps;
          below = laws.starts.below;
          in_order = laws.starts.in_order;
          cleared = λ p found. absurd (contains_none p found);
          staggered = λ p found. absurd (contains_none p found);
          unused_zero = λ r below unused c within. absurd (omega (arith, within));
          chosen = laws.starts.chosen;
        };
        names = λ j free. (
          λ r c small within. subst (IsFreeOf j) (sym (start_left r c small within)) (free r c small within),
          λ r k small within. subst (IsFreeOf j) (sym (start_right r k small within)) (laws.names_at_start j r k small within),
        );
      }

-- ---- the end

good_echelon : (n certs m : ℕ) (A : ℕ → ℕ → Polynomial) (s : Working) → IsGood n m A certs m s → IsEchelonOf n certs m A (parted m s)
good_echelon n certs m A s good = record {
  left_rows = length-map s.rows _ ∙ good.filled.many;
  right_rows = length-map s.rows _ ∙ good.filled.many;
  left_filled = λ k d small.
      let below : k < length s.rows = omega (arith, small, length-map s.rows (take m)) in
      ap length (get_or-map (take m) s.rows k [] d below)
      ∙ length-take-le m (row_at s.rows k) (omega (arith, good.filled.long k (omega (arith, below, good.filled.many))));
  right_filled = λ k d small.
      let below : k < length s.rows = omega (arith, small, length-map s.rows (drop m)) in
      ap length (get_or-map (drop m) s.rows k [] d below) ∙ length-drop m (row_at s.rows k)
      ∙ (let long : length (row_at s.rows k) - m ≡ n = omega (arith, good.filled.long k (omega (arith, below, good.filled.many))) in long);
  elimination = done s.free good.so_far;
  certificates_cleared = (finished n m A certs (parts m s.rows) s.pivots).certificates_cleared s.free (done s.free good.so_far);
  names = good.names;
}
  where
    done : (free : Option ℕ) → IsSoFar n m A certs free m s.rows s.pivots → IsElimination polys n m A certs free (parts m s.rows) s.pivots
    done None so_far = so_far
    done (Some f) so_far = so_far

is_echelon :
    (certs m : ℕ) (rows : List Row) (e : Eliminated) → All (λ row. length row ≡ m) rows → checked_elimination certs m rows ≡ Ok e →
    IsEchelonOf (length rows) certs m (matrix_of polys.zero rows) e
unfolding checked_elimination
is_echelon certs m rows e filled fits =
    let both = both_fit (checked_fold (checked_column certs) (start rows) (range_with_len 0 m)) (λ s. Ok (parted m s)) e fits in
    let same : parted m both.value ≡ e = cc in
    subst (IsEchelonOf (length rows) certs m (matrix_of polys.zero rows)) same
    (good_echelon (length rows) certs m (matrix_of polys.zero rows) both.value
    (columns_good (length rows) m (matrix_of polys.zero rows) certs m 0 (start rows) both.value (omega arith) both.first
    (start_good m rows filled certs)))

eliminated_is :
    (certs width : ℕ) (rows rs : List Row) (ps : List Pivot) (p : Polynomial) (e : Working) (l r : List Row) →
    rs ≡ with_unit rows → ps ≡ [] → p ≡ polys.one →
    checked_fold (checked_column certs) (record { rows = rs; pivots = ps; prev = p; free = None }) (range_with_len 0 width) ≡ Ok e →
    l ≡ map (take width) e.rows → r ≡ map (drop width) e.rows →
    checked_elimination certs width rows ≡ Ok (record { left = l; right = r; pivots = e.pivots; free = e.free })
unfolding checked_elimination
eliminated_is certs width rows rs ps p e l r rows_are empty one turned left_is right_is =
    let state : start rows ≡ record { rows = rs; pivots = ps; prev = p; free = None } =
    λ i. record { rows = sym rows_are i; pivots = sym empty i; prev = sym one i; free = None } in
    ap (λ s. checked_fold (checked_column certs) s (range_with_len 0 width) >>= (λ e. Ok (parted width e))) state
    ∙ ap (λ c. c >>= (λ e. Ok (parted width e))) turned
    ∙ (λ i. Ok (record { left = sym left_is i; right = sym right_is i; pivots = e.pivots; free = e.free }))

-- where each row is seen through a function
pub seen :
    {X : Type 0} (row_of : X → Row) (certs m : ℕ) (xs : List X) (rs : List Row) (ps : List Pivot) (p : Polynomial) (e : Working)
    (l r : List Row) → All (λ x. length (row_of x) ≡ m) xs → rs ≡ with_unit (map row_of xs) → ps ≡ [] → p ≡ polys.one →
    checked_fold (checked_column certs) (record { rows = rs; pivots = ps; prev = p; free = None }) (range_with_len 0 m) ≡ Ok e →
    l ≡ map (take m) e.rows → r ≡ map (drop m) e.rows →
    IsEchelonOf (length xs) certs m (matrix_of polys.zero (map row_of xs)) (record { left = l; right = r; pivots = e.pivots; free = e.free })
seen row_of certs m xs rs ps p e l r filled rows_are empty one turned left_is right_is =
    subst (λ n. IsEchelonOf n certs m (matrix_of polys.zero (map row_of xs)) (record { left = l; right = r; pivots = e.pivots; free = e.free }))
    (length-map xs row_of)
    (is_echelon certs m (map row_of xs) _ (All-map (λ row. length row ≡ m) row_of xs filled)
    (eliminated_is certs m (map row_of xs) rs ps p e l r rows_are empty one turned left_is right_is))

pub echelon_form :
    (n certs m : ℕ) (A : ℕ → ℕ → Polynomial) (e : Eliminated) → IsEchelonOf n certs m A e → ∥ IsEchelonForm certs m e ∥₁
echelon_form n certs m A e of = ∣ (A, subst (λ n. IsEchelonOf n certs m A e) (sym of.left_rows) of) ∣₁
