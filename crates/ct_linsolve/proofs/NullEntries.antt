-- The cleared entries are a null vector of the left side, and so is what slimming leaves of them. Main lemmas: `ratio_nonzero` and
-- `known_more` for the loop over columns, `entries_nonzero`, and `null_vector_is`, which `null_vector` cites.
-- Each entry times the denominator of its ratio is the numerator times the common denominator, which is the entry at the free column.
use Rattle.ct_linsolve.proofs.Base.{◌≡◌, ◌≢◌, ◌⊎◌, inl, inr, refl, ℕ, zero, suc, ◌+◌, ◌<◌, ◌≤◌, Bool, true, false, cond, eqb, Option, Some, None, Ok}
use Rattle.ct_linsolve.proofs.Base.{ℤ}
use Rattle.ct_linsolve.proofs.Base.{List, [], ◌∷◌, length, map, sym, ◌∙◌, ap, ap₂, subst, arith, eqb-true, Contains, range_with_len}
use Rattle.ct_linsolve.proofs.Base.{get_or, get_or-map-range_with_len, length-map-range_with_len, Polynomial, polys, times, zero_mul, mul_zero}
use Rattle.ct_linsolve.proofs.Base.{one_mul}
use Rattle.ct_linsolve.proofs.Base.{both_fit, each_length, Pivot, AreInOrder, IsFree, IsElimination, State, KeepsMatrix, first_state}
use Rattle.ct_linsolve.proofs.Base.{matrix_of, contains_first, contains_later, by_columns, finished}
use Rattle.std.proofs.Math.Logic.{∥∥₁_elim}
use Rattle.std.proofs.Common.{eq-eqb}
use Rattle.std.proofs.Math.Nat.{ℕ_set}
use Rattle.std.specs.Coded.{le_prop}
use Rattle.std.proofs.lemmas.Bool.{ne_eqb}
use Rattle.ct_algebra.specs.FreeOf.{IsFreeOf, IsWithout}
use Rattle.ct_algebra.specs.Monomial.{Mono}
use Rattle.ct_algebra.specs.Terms.{EachTerm}
use Rattle.ct_algebra.specs.Names.{Name}
use Rattle.ct_algebra.specs.Ring.{neg_mul}
use Rattle.std.proofs.Common.{Result, Err, IfOk, IfSome}
use Rattle.ct_checked.specs.declared.fault.Fault.{Fault}
use Rattle.ct_checked.specs.Checked.{AnswersBy, BothFit, ◌>>=◌}
use Rattle.ct_checked.specs.Traversal.{checked_each}
use Rattle.ct_frac.specs.Arithmetic.{DividesFactors, checked_common, checked_cleared}
use Rattle.ct_frac.specs.FractionLaws.{EachIsWritten, EachDivides}
use Rattle.ct_frac.specs.Normal.{quotient_of}
use Rattle.ct_frac.specs.Written.{Denominator, Written, IsDenominator, IsWritten, value, value_over, multiplied_out, one_den}
use Rattle.ct_frac.proofs.Clearing.{cleared_ok}
use Rattle.ct_frac.proofs.CommonDenominators.{divided_by_each}
use Rattle.ct_frac.proofs.Denominators.{den_nonzero}
use Rattle.ct_frac.proofs.Quotients.{same_over, cross_of}
use Rattle.ct_telescoping.specs.Echelon.{HasPivot, IsNullVector}
use Rattle.ct_telescoping.specs.Elimination.{matrix_times}
use Rattle.ct_telescoping.specs.EntriesFree.{EntriesAreFree}
use Rattle.ct_telescoping.proofs.EntriesFree.{free_quotient}
use Rattle.ct_telescoping.proofs.FreeFactors.{free_one}
use Rattle.ct_linsolve.specs.EchelonForm.{IsEchelonForm, IsEchelonOf, sides}
use Rattle.ct_linsolve.specs.Elimination.{Eliminated}
use Rattle.ct_linsolve.specs.NullVector.{pivot_ratio, null_ratio, null_fraction, null_fractions, all_cleared, checked_null_vector, HavePivots}
use Rattle.ct_linsolve.specs.NullVector.{IsKnown, AreKnown}
use Rattle.ct_linsolve.specs.NullVector.{IsNullVectorOf}
use Rattle.ct_linsolve.specs.Refuting.{pivot_of}
use Rattle.ct_linsolve.specs.Rows.{Row, entry, row_at}
use Rattle.ct_linsolve.specs.Slimming.{IsOver, slimmed}
use Rattle.ct_linsolve.proofs.DividedOut.{slimmed_over}
use Rattle.ct_linsolve.proofs.FreeDenominators.{EachIsFree, quotient_free, common_free, den_free}
use Rattle.ct_linsolve.proofs.FromZero.{each_at}
use Rattle.ct_linsolve.proofs.Pivots.{one_nonzero}
use Rattle.ct_linsolve.proofs.Refuted.{pivot_found, moved}

-- ---- pivots

contained : (c : ℕ) (ps : List Pivot) (p : Pivot) → pivot_of c ps ≡ Some p → Contains ps p × (p.column ≡ c)
contained c [] p found = cc
contained c (q ∷ ps) p found = by (eqb q.column c) refl found (contained c ps p)
  where
    by : (b : Bool) → eqb q.column c ≡ b → cond b (Some q) (pivot_of c ps) ≡ Some p
        → (pivot_of c ps ≡ Some p → Contains ps p × (p.column ≡ c)) → Contains (q ∷ ps) p × (p.column ≡ c)
    by true is found later =
        let same : q ≡ p = cc in
        (subst (Contains (q ∷ ps)) same (contains_first q ps), ap (λ w. w.column) (sym same) ∙ eqb-true q.column c is)
    by false is found later = let there = later found in (contains_later q p ps there.0, there.1)

pub ratio_nonzero : (left : List Row) (ps : List Pivot) (f c : ℕ) → HavePivots left ps → (null_ratio left ps f c).1 ≢ polys.zero
ratio_nonzero left ps f c some = by (eqb c f) (pivot_of c ps) refl
  where
    by : (b : Bool) (o : Option Pivot) → pivot_of c ps ≡ o → (cond b (polys.one, polys.one) (pivot_ratio left f o)).1 ≢ polys.zero
    by true o found = one_nonzero
    by false None found = one_nonzero
    by false (Some p) found = some p (contained c ps p found).0

pub known_as :
    {left : List Row} {ps : List Pivot} {f c : ℕ} {r : Polynomial × Polynomial} {w : Written} → r ≡ null_ratio left ps f c →
    w ≡ quotient_of r.0 r.1 → IsWritten w → value w ≡ value_over r.0 r.1 → IsKnown left ps f c
known_as {left} {ps} {f} {c} {r} {w} ratio is written value_is =
    let same : w ≡ null_fraction left ps f c = is ∙ ap (λ r. quotient_of r.0 r.1) ratio in
    record {
      written = subst IsWritten same written;
      value_is = ap value (sym same) ∙ value_is ∙ ap (λ r. value_over r.0 r.1) ratio;
    }

pub known_more : (left : List Row) (ps : List Pivot) (f k : ℕ) → AreKnown left ps f k → IsKnown left ps f k → AreKnown left ps f (k + 1)
known_more left ps f k known here c small = by (order c k (omega (arith, small)))
  where
    order : (c k : ℕ) → c ≤ k → (c < k) ⊎ (c ≡ k)
    order c k low = grind arith

    by : (c < k) ⊎ (c ≡ k) → IsKnown left ps f c
    by (inl less) = known c less
    by (inr same) = subst (IsKnown left ps f) (sym same) here

-- ---- a list of values of a function

ranged :
    {X : Type 0} (g : ℕ → X) (P : List X → Type 0) → P [] → (a k : ℕ) →
    ((c : ℕ) (xs : List X) → c < a + k → P xs → P (g c ∷ xs)) → P (map g (range_with_len a k))
ranged g P none a zero more = none
ranged g P none a (suc k) more =
    more a _ (omega arith) (ranged g P none (a + 1) k (λ c xs small. more c xs (omega (arith, small))))

divides_at : (ws : List Written) (d : Denominator) → EachDivides ws d → (c : ℕ) (w : Written) → c < length ws → DividesFactors (get_or ws c w).den d
divides_at [] d each c w small = absurd (omega (arith, small))
divides_at (v ∷ ws) d each zero w small = each.0
divides_at (v ∷ ws) d each (suc c) w small = divides_at ws d each.1 c w (omega (arith, small))

module _ (left : List Row) (ps : List Pivot) (f m : ℕ) where
  abbrev fraction : ℕ → Written
  fraction = null_fraction left ps f

  abbrev num : ℕ → Polynomial
  num c = (null_ratio left ps f c).0

  abbrev den : ℕ → Polynomial
  den c = (null_ratio left ps f c).1

  pub all_written : AreKnown left ps f m → EachIsWritten (null_fractions m left ps f)
  all_written known = ranged fraction EachIsWritten tt 0 m (λ c ws small each. ((known c (omega (arith, small))).written, each))

  module _ (some : HavePivots left ps) (known : AreKnown left ps f m) (x : Row) (fits : all_cleared (null_fractions m left ps f) ≡ Ok x) where
    abbrev ws : List Written
    ws = null_fractions m left ps f

    abbrev both : BothFit (checked_common one_den ws) (λ d. checked_each (λ w. checked_cleared w d) ws) x
    both = both_fit (checked_common one_den ws) (λ d. checked_each (λ w. checked_cleared w d) ws) x fits

    abbrev d : Denominator
    d = both.value

    divided : IsDenominator d × EachDivides ws d
    divided = divided_by_each ws d (all_written known) both.first

    width : length ws ≡ m
    width = length-map-range_with_len fraction 0 m

    pub entries_long : length x ≡ m
    entries_long = each_length (λ _ w. checked_cleared w d) 1 ws x both.rest ∙ width

    crossed : (c : ℕ) → c < m → times (entry x c) (den c) ≡ times (num c) (multiplied_out d)
    crossed c small =
        cross_of (entry x c) (multiplied_out d) (num c) (den c) whole (ratio_nonzero left ps f c some)
        (same_over (entry x c) (multiplied_out d) w.numerator (multiplied_out w.den) whole part cleared
        ∙ (unfold value in is.value_is))
      where
        w : Written
        w = fraction c

        is : IsKnown left ps f c
        is = known c small

        whole : multiplied_out d ≢ polys.zero
        whole = den_nonzero d divided.0

        part : multiplied_out w.den ≢ polys.zero
        part = den_nonzero w.den is.written.den

        at : get_or ws c w ≡ w
        at = get_or-map-range_with_len fraction 0 m c c w small (omega arith)

        cleared : times (entry x c) (multiplied_out w.den) ≡ times w.numerator (multiplied_out d)
        cleared =
            cleared_ok w d (entry x c) is.written.den divided.0
            (subst (λ w. DividesFactors w.den d) at (divides_at ws d divided.1 c w (omega (arith, small, width))))
            (ap (λ w. checked_cleared w d) (sym at)
            ∙ each_at (λ _ w. checked_cleared w d) 1 ws x both.rest c w polys.zero (omega (arith, small, width)))

    by_one : (p q r : Polynomial) → times p q ≡ times r (multiplied_out d) → q ≡ polys.one → p ≡ times r (multiplied_out d)
    unfolding times
    by_one p q r same one = sym (polys.mul_one p) ∙ ap (polys.◌*◌ p) (sym one) ∙ same

    ratio_at : (c : ℕ) (b : Bool) → eqb c f ≡ b → null_ratio left ps f c ≡ cond b (polys.one, polys.one) (pivot_ratio left f (pivot_of c ps))
    ratio_at c b is = ap (λ b. cond b (polys.one, polys.one) (pivot_ratio left f (pivot_of c ps))) is

    entry_at_free : f < m → entry x f ≡ multiplied_out d
    unfolding times
    entry_at_free small =
        let here = ratio_at f true (eq-eqb f f refl) in
        by_one _ _ (num f) (crossed f small) (ap (λ r. r.1) here) ∙ ap (λ r. polys.◌*◌ r.0 (multiplied_out d)) here ∙ one_mul polys _

    pub entries_nonzero : f < m → entry x f ≢ polys.zero
    entries_nonzero small none = den_nonzero d divided.0 (sym (entry_at_free small) ∙ none)

    module _ (small : f < m) (order : AreInOrder ps) (below : (p : Pivot) → Contains ps p → p.column < f) where
      cancels :
          (p : Pivot) → Contains ps p →
          polys.◌+◌ (polys.◌*◌ (entry (row_at left p.row) p.column) (entry x p.column))
          (polys.◌*◌ (entry (row_at left p.row) f) (entry x f)) ≡ polys.zero
      unfolding times
      cancels p has =
          let e = entry (row_at left p.row) p.column in
          let l = entry (row_at left p.row) f in
          let before : p.column < f = below p has in
          let here : null_ratio left ps f p.column ≡ (polys.neg l, e) =
          ratio_at p.column false (ne_eqb p.column f (λ same. absurd (omega (arith, same, before))))
          ∙ ap (pivot_ratio left f) (pivot_found ps p order has) in
          let first : polys.◌*◌ (entry x p.column) e ≡ polys.◌*◌ (polys.neg l) (multiplied_out d) =
          ap (λ r. polys.◌*◌ (entry x p.column) r.1) (sym here) ∙ crossed p.column (omega (arith, before, small))
          ∙ ap (λ r. polys.◌*◌ r.0 (multiplied_out d)) here in
          ap (λ v. polys.◌+◌ v (polys.◌*◌ l (entry x f))) (polys.mul_comm e (entry x p.column) ∙ first ∙ neg_mul polys l (multiplied_out d))
          ∙ ap (λ v. polys.◌+◌ (polys.neg (polys.◌*◌ l (multiplied_out d))) (polys.◌*◌ l v)) (entry_at_free small)
          ∙ polys.add_comm _ _ ∙ polys.add_neg (polys.◌*◌ l (multiplied_out d))

      others : (c : ℕ) → c < m → c ≢ f → ¬ HasPivot c ps → entry x c ≡ polys.zero
      unfolding times
      others c within other none =
          let here : null_ratio left ps f c ≡ (polys.zero, polys.one) =
          ratio_at c false (ne_eqb c f other) ∙ ap (pivot_ratio left f) (no_pivot (pivot_of c ps) refl) in
          by_one _ _ (num c) (crossed c within) (ap (λ r. r.1) here) ∙ ap (λ r. polys.◌*◌ r.0 (multiplied_out d)) here ∙ zero_mul polys _
        where
          no_pivot : (o : Option Pivot) → pivot_of c ps ≡ o → o ≡ None
          no_pivot None is = refl
          no_pivot (Some p) is =
              let there = contained c ps p is in
              absurd (none (record { row = p.row; stands = subst (λ k. Contains ps (record { row = p.row; column = k })) there.1 there.0 }))

      -- of every matrix, with the same left side
      null :
          (n : ℕ) (A right : ℕ → ℕ → Polynomial) →
          IsNullVector polys n m A f (record { left = matrix_of polys.zero left; right = right }) ps (entry x)
      null n A right = record { nonzero = entries_nonzero small; cancels = cancels; others = others }

      -- ---- names

      free_at_free :
          (j : Name) (n : ℕ) → EntriesAreFree j n m (matrix_of polys.zero left) → ((p : Pivot) → Contains ps p → p.row < n) → IsFreeOf j (entry x f)
      free_at_free j n free rows =
          subst (IsFreeOf j) (sym (entry_at_free small))
          (den_free j d (common_free j one_den ws d both.first tt
          (ranged fraction (EachIsFree j) tt 0 m (λ c ws within each.
          (quotient_free j (num c) (den c) (ratio_nonzero left ps f c some) (divisor c), each)))))
        where
          divisor : (c : ℕ) → IsFreeOf j (den c)
          divisor c = by (eqb c f) (pivot_of c ps) refl
            where
              by : (b : Bool) (o : Option Pivot) → pivot_of c ps ≡ o → IsFreeOf j (cond b (polys.one, polys.one) (pivot_ratio left f o)).1
              by true o is = free_one j
              by false None is = free_one j
              by false (Some p) is =
                  let has = (contained c ps p is).0 in
                  let before : p.column < f = below p has in free p.row p.column (rows p has) (omega (arith, before, small))

-- ---- the vector

module _ (certs m f : ℕ) (e : Eliminated) (is_free : e.free ≡ Some f) where
  abbrev n : ℕ
  n = length e.left

  abbrev L : ℕ → ℕ → Polynomial
  L = matrix_of polys.zero e.left

  free_form : (B : ℕ → ℕ → Polynomial) → IsEchelonOf n certs m B e → IsFree polys n m B certs f (sides e.left e.right) e.pivots
  free_form B of = subst (λ o. IsElimination polys n m B certs o (sides e.left e.right) e.pivots) is_free of.elimination

  pub have_pivots : ∥ IsEchelonForm certs m e ∥₁ → HavePivots e.left e.pivots
  have_pivots form p has = ∥∥₁_elim form (hlevel tt) (λ of. ((free_form of.0 of.1).echelon.cleared p has).nonzero)

  pub free_small : ∥ IsEchelonForm certs m e ∥₁ → f < m
  free_small form = ∥∥₁_elim form le_prop (λ of. (free_form of.0 of.1).in_range)

  module _ (form : ∥ IsEchelonForm certs m e ∥₁) (known : AreKnown e.left e.pivots f m) (x s : Row)
      (fits : all_cleared (null_fractions m e.left e.pivots f) ≡ Ok x) (over : IsOver x s) where
    some : HavePivots e.left e.pivots
    some = have_pivots form

    nonzero : entry s f ≢ polys.zero
    nonzero none = entries_nonzero e.left e.pivots f m some known x fits (free_small form)
        (over.entries f ∙ ap (polys.◌*◌ over.factor) none ∙ mul_zero polys over.factor)

    module _ (B : ℕ → ℕ → Polynomial) (of : IsEchelonOf n certs m B e) where
      free : IsFree polys n m B certs f (sides e.left e.right) e.pivots
      free = free_form B of

      -- a matrix that some multipliers make the left side of
      annulled :
          (A right : ℕ → ℕ → Polynomial) → KeepsMatrix polys n m A (record { left = L; right = right }) → (k : ℕ) → k < n →
          matrix_times polys n m A (entry s) k ≡ polys.zero
      annulled A right keeps =
          let t : State Polynomial = record { left = L; right = right } in
          let laws = finished n m A certs t e.pivots in
          let moved_free : IsFree polys n m A certs f t e.pivots = record {
            of_telescoper = free.of_telescoper;
            in_range = free.in_range;
            echelon = moved certs m f A e B right keeps free.echelon;
            zero_there = free.zero_there;
          } in
          laws.divided over.factor (entry x) (entry s) over.nonzero (λ c within. over.entries c)
          (laws.annihilates f moved_free (entry x)
          (null e.left e.pivots f m some known x fits free.in_range free.echelon.in_order free.echelon.below n A right))

      names : (j : Name) → EntriesAreFree j n m L → (c : ℕ) → c < m → IsFreeOf j (entry s c)
      names j clear c within =
          free_quotient j over.factor (entry s c) (entry x c) over.nonzero (sym (over.entries c))
          ((finished n m B certs (sides e.left e.right) e.pivots).names_of_null j f free (entry x)
          (null e.left e.pivots f m some known x fits free.in_range free.echelon.in_order free.echelon.below n B (matrix_of polys.zero e.right)) clear
          (free_at_free e.left e.pivots f m some known x fits free.in_range free.echelon.in_order free.echelon.below j n clear
          (λ p has. (free.echelon.cleared p has).row_in_range)) c within)

    free_prop : (j : Name) (p : Polynomial) → IsProp (IsFreeOf j p)
    free_prop j p = by p.terms
      where
        by : (es : List (Mono × ℤ)) → IsProp (EachTerm (λ m c. IsWithout j m) es)
        by [] = hlevel tt
        by (e ∷ es) = let rest = by es in hlevel (ℕ_set, rest)

    pub null_vector_of : IsNullVectorOf m e f s
    null_vector_of = record {
      long = over.lengths ∙ entries_long e.left e.pivots f m some known x fits;
      nonzero = nonzero;
      of_left = λ k small. ∥∥₁_elim form (polys.is_set _ _)
          (λ of. annulled of.0 of.1 L (first_state polys n m L).right (by_columns n m L certs).starts.keeps k small);
      of_matrix = λ A given k small. ∥∥₁_elim form (polys.is_set _ _)
          (λ of. annulled of.0 of.1 A (matrix_of polys.zero e.right)
          (record { gives = given; injective = (free_form of.0 of.1).echelon.keeps.injective }) k small);
      names = λ j clear c within. ∥∥₁_elim form (free_prop j (entry s c)) (λ of. names of.0 of.1 j clear c within);
    }

pub null_vector_is :
    {X : Type 0} (row_of : X → Row) (certs m f : ℕ) (e : Eliminated) (extra : List Polynomial) (left : List Row) (ps : List Pivot) →
    left ≡ e.left → ps ≡ e.pivots → e.free ≡ Some f → ∥ IsEchelonForm certs m e ∥₁ → (r : Result X Fault) →
    AnswersBy row_of (checked_null_vector m left ps f extra) r → IfOk r (λ _. AreKnown left ps f m) →
    IfSome e.free (λ f. IfOk r (λ v. IsNullVectorOf m e f (row_of v)))
unfolding checked_null_vector
null_vector_is {X} row_of certs m f e extra left ps left_is ps_is is_free form r answer known =
    subst (λ o. IfSome o (λ f. IfOk r (λ v. IsNullVectorOf m e f (row_of v)))) (sym is_free) (by r answer known)
  where
    by : (r : Result X Fault) → AnswersBy row_of (all_cleared (null_fractions m left ps f) >>= (λ x. Ok (slimmed extra x))) r
        → IfOk r (λ _. AreKnown left ps f m) → IfOk r (λ v. IsNullVectorOf m e f (row_of v))
    by (Err fault) fits known = tt
    by (Ok v) fits known =
        let both = both_fit (all_cleared (null_fractions m left ps f)) (λ x. Ok (slimmed extra x)) (row_of v) fits in
        let same : slimmed extra both.value ≡ row_of v = cc in
        null_vector_of certs m f e is_free form
        (subst (λ l. AreKnown l e.pivots f m) left_is (subst (λ qs. AreKnown left qs f m) ps_is known)) both.value (row_of v)
        (ap₂ (λ l qs. all_cleared (null_fractions m l qs f)) (sym left_is) (sym ps_is) ∙ both.first)
        (subst (IsOver both.value) same (slimmed_over extra both.value))
