-- Checked loops: while a test finds something in the state, a step on it. (This project's own.)
--     turns n s     at most n turns, from the state s
--     run s         all turns: as many as the rank of s allows
--     Falls         each step from a state in which something is found makes the rank fall
-- Where the rank falls, `run` is the loop with no count left in it: laws `run_is`, `run_done`, `run_step`, `run_more`.
-- Law `run_keeps`: what each step keeps holds at the end, where nothing is found any more.
-- Cited by the definitions of exact division, left reduction and elimination.
use Rattle.std.specs.Prelude.{◌≡◌, ℕ, zero, suc, ◌<◌, Ok, Err, None, Some, refl}
use Rattle.std.proofs.Common.{Option, Result, sym, ◌∙◌, ap, arith, subst}
use Rattle.ct_checked.specs.Checked.{◌>>=◌}

module _ {S H E : Type 0} (rank : S → ℕ) (find : S → Option H) (step : H → S → Result S E) where
  -- one turn, and then f
  abbrev pub turn : (S → Result S E) → S → Option H → Result S E
  turn f s None = Ok s
  turn f s (Some h) = step h s >>= f

  abbrev pub turns : ℕ → S → Result S E
  turns zero s = Ok s
  turns (suc n) s = turn (turns n) s (find s)

  unfoldable pub run : S → Result S E
  run s = turns (suc (rank s)) s

  abbrev pub Falls : Type 0
  Falls = (s t : S) (h : H) → find s ≡ Some h → step h s ≡ Ok t → rank t < rank s

  -- ---- laws

  module _ (falls : Falls) where
    turn_same :
        (f g : S → Result S E) (s : S) (o : Option H) → find s ≡ o → ((t : S) → rank t < rank s → f t ≡ g t) →
        turn f s o ≡ turn g s o
    turn_same f g s None found same = refl
    turn_same f g s (Some h) found same = by (step h s) refl
      where
        by : (r : Result S E) → step h s ≡ r → (r >>= f) ≡ (r >>= g)
        by (Ok t) stepped = same t (falls s t h found stepped)
        by (Err e) stepped = refl

    enough : (n m : ℕ) (s : S) → rank s < n → rank s < m → turns n s ≡ turns m s
    enough zero m s less also = absurd (omega arith)
    enough (suc n) zero s less also = absurd (omega arith)
    enough (suc n) (suc m) s less also =
        turn_same (turns n) (turns m) s (find s) refl (λ t falls. enough n m t (omega arith) (omega arith))

    -- the loop's own equation
    pub run_is : (s : S) → run s ≡ turn run s (find s)
    unfolding run
    run_is s =
        turn_same (turns (rank s)) run s (find s) refl
        (λ t falls. enough (rank s) (suc (rank t)) t falls (omega arith))

    pub run_done : (s : S) → find s ≡ None → run s ≡ Ok s
    run_done s nothing = run_is s ∙ ap (turn run s) nothing

    pub run_step : (s : S) (h : H) → find s ≡ Some h → run s ≡ (step h s >>= run)
    run_step s h found = run_is s ∙ ap (turn run s) found

    pub run_more : (s t : S) (h : H) → find s ≡ Some h → step h s ≡ Ok t → run s ≡ run t
    run_more s t h found stepped = run_step s h found ∙ ap (λ r. r >>= run) stepped

  module _ (P : S → Type 0) (keeps : (s t : S) (h : H) → find s ≡ Some h → step h s ≡ Ok t → P s → P t) where
    abbrev Kept : S → Type 0
    Kept t = P t × (find t ≡ None)

    turns_keep : Falls → (n : ℕ) (s t : S) → rank s < n → P s → turns n s ≡ Ok t → Kept t
    turns_keep falls zero s t less holds ends = absurd (omega arith)
    turns_keep falls (suc n) s t less holds ends = by (find s) refl (λ u. turns_keep falls n u t) ends
      where
        Later : Type 0
        Later = (u : S) → rank u < n → P u → turns n u ≡ Ok t → Kept t

        further : (h : H) (r : Result S E) → find s ≡ Some h → step h s ≡ r → Later → (r >>= turns n) ≡ Ok t → Kept t
        further h (Ok u) found stepped later ends =
            let falls_here = falls s u h found stepped in later u (omega arith) (keeps s u h found stepped holds) ends
        further h (Err e) found stepped later ends = cc

        by : (o : Option H) → find s ≡ o → Later → turn (turns n) s o ≡ Ok t → Kept t
        by None nothing later ends =
            let same : s ≡ t = cc in (subst P same holds, ap find (sym same) ∙ nothing)
        by (Some h) found later ends = further h (step h s) found refl later ends

    pub run_keeps : Falls → (s t : S) → P s → run s ≡ Ok t → Kept t
    unfolding run
    run_keeps falls s t holds ends = turns_keep falls (suc (rank s)) s t (omega arith) holds ends
