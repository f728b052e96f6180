-- Elimination keeps what KeepsMatrix says: main lemmas `KeepsMatrix-first`, `KeepsMatrix-after` for one pivot, and
-- `null_of_left`: what the left side sends to zero, the matrix sends to zero.
-- Each row step is p·row − a·pivotrow and an exact division, and both can be undone over a ring without zero divisors.
use Rattle.ct_telescoping.proofs.Base.{◌≡◌, ℕ, ◌<◌, ◌≢◌, cond, eqb, sym, ◌∙◌, ap, refl, subst, eq-eqb, ne_eqb, Ring, zero_mul, one_mul, IsDomain}
use Rattle.ct_telescoping.proofs.Base.{sum_below, sum_below-same}
use Rattle.ct_telescoping.specs.Laws.SumsBelow.{sum_below-one}
use Rattle.ct_telescoping.specs.Elimination.{State, RowStep, Step, KeepsMatrix, Gives, Annuls, matrix_times, first_state}
use Rattle.ct_telescoping.proofs.Multipliers.{Gives-step, Gives-divided, Annuls-before_step, Annuls-before_division, Gives-image}
use native.Mathlib.Decide.{ℕ_discrete}

module _ {A : Type 0} (R : Ring A) (D : IsDomain R) (n m : ℕ) (matrix : ℕ → ℕ → A) where
  open R use {zero, one, ◌+◌, ◌*◌, neg}

  infixl 60 ◌+◌
  infixl 70 ◌*◌
  Gives-other : (s t : State A) (q c r : ℕ) → Step R n m matrix s t q c → RowStep R n m matrix s t q c r
      → Gives R n m matrix (s.right q) (s.left q) → Gives R n m matrix (s.right r) (s.left r) → Gives R n m matrix (t.right r) (t.left r)
  Gives-other s t q c r st w hq hr =
      Gives-divided R D n m matrix w.factor (λ k. s.left q c * s.right r k + neg (s.left r c * s.right q k)) (t.right r)
      (λ k. s.left q c * s.left r k + neg (s.left r c * s.left q k)) (t.left r)
      w.factor_nonzero w.right_is w.left_is
      (Gives-step R D n m matrix (s.left q c) (s.left r c) (s.right r) (s.right q) (s.left r) (s.left q) hr hq)

  Gives-kept :
      (s t : State A) (q c : ℕ) → Step R n m matrix s t q c → Gives R n m matrix (s.right q) (s.left q) →
      Gives R n m matrix (t.right q) (t.left q)
  Gives-kept s t q c st h k lt =
      sum_below-same R.group n (λ j. t.right q j * matrix j k) (λ j. s.right q j * matrix j k) (λ j l. ap (λ u. u * matrix j k) (st.right_kept j l))
      ∙ h k lt ∙ sym (st.left_kept k lt)

  at_row : (P : ℕ → Type 0) (q : ℕ) → P q → ((r : ℕ) → r ≢ q → P r) → (r : ℕ) → P r
  at_row P q h f r = by (ℕ_discrete r q)
    where
      by : Dec (r ≡ q) → P r
      by (yes e) = subst P (sym e) h
      by (no m) = f r m

  Annuls-kept :
      (s t : State A) (q c : ℕ) → Step R n m matrix s t q c → (y : ℕ → A) → Annuls R n m matrix (t.right q) y →
      Annuls R n m matrix (s.right q) y
  Annuls-kept s t q c st y h =
      sum_below-same R.group n (λ j. s.right q j * y j) (λ j. t.right q j * y j) (λ j l. ap (λ u. u * y j) (sym (st.right_kept j l)))
      ∙ h

  Annuls-other :
      (s t : State A) (q c r : ℕ) → Step R n m matrix s t q c → RowStep R n m matrix s t q c r → (y : ℕ → A)
      → Annuls R n m matrix (s.right q) y → Annuls R n m matrix (t.right r) y → Annuls R n m matrix (s.right r) y
  Annuls-other s t q c r st w y hq hr =
      Annuls-before_step R D n m matrix (s.left q c) (s.left r c) (s.right r) (s.right q) y st.pivot_nonzero hq
      (Annuls-before_division R D n m matrix w.factor (λ k. s.left q c * s.right r k + neg (s.left r c * s.right q k)) (t.right r) y
      w.right_is hr)

  pub KeepsMatrix-after :
      (s t : State A) (q c : ℕ) → Step R n m matrix s t q c → KeepsMatrix R n m matrix s → KeepsMatrix R n m matrix t
  KeepsMatrix-after s t q c st h = record {
    gives = at_row (λ r. r < n → Gives R n m matrix (t.right r) (t.left r)) q
        (λ l. Gives-kept s t q c st (h.gives q l))
        (λ r m l. Gives-other s t q c r st (st.others r l m) (h.gives q st.row_in_range) (h.gives r l));
    injective = λ y z. h.injective y (at_row (λ r. r < n → Annuls R n m matrix (s.right r) y) q
        (λ l. Annuls-kept s t q c st y (z q l))
        (λ r m l. Annuls-other s t q c r st (st.others r l m) y (Annuls-kept s t q c st y (z q st.row_in_range)) (z r l)));
  }

  unit_picks : (r : ℕ) → r < n → (x : ℕ → A) → sum_below R.group n (λ k. cond (eqb k r) one zero * x k) ≡ x r
  unit_picks r l x =
      sum_below-one R.group n r (λ k. cond (eqb k r) one zero * x k) l
      (λ k q ne. ap (λ b. cond b one zero * x k) (ne_eqb k r ne) ∙ zero_mul R (x k))
      ∙ ap (λ b. cond b one zero * x r) (eq-eqb r r refl) ∙ one_mul R (x r)

  pub KeepsMatrix-first : KeepsMatrix R n m matrix (first_state R n m matrix)
  KeepsMatrix-first = record {
    gives = λ r l c q. unit_picks r l (λ k. matrix k c);
    injective = λ y z k l. sym (unit_picks k l y) ∙ z k l;
  }

  pub null_of_left : (s : State A) → KeepsMatrix R n m matrix s → (x : ℕ → A) →
      ((r : ℕ) → r < n → sum_below R.group m (λ c. s.left r c * x c) ≡ zero) → (k : ℕ) → k < n → matrix_times R n m matrix x k ≡ zero
  null_of_left s h x z =
      h.injective (matrix_times R n m matrix x)
      (λ r l. Gives-image R D n m matrix (s.right r) (s.left r) x (h.gives r l) ∙ z r l)
