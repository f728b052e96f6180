-- The symbol of the last name acts last. Main lemmas `column-one` and `column-symbol`, which the law `columns_go_by_symbols` cites.
use Rattle.ct_module.proofs.Base.{◌≡◌, refl, sym, ◌∙◌, ap, ap₂, subst, arith, ℕ, zero, suc, ◌+◌, ◌<◌, ◌≤◌, List, [], ◌∷◌, ◌++◌, Ok, Err, ◌>>=◌, true, false}
use Rattle.ct_module.proofs.Base.{append-nil, append_assoc, cond, eqb, Name, name_with, place, place-name_with}
use Rattle.std.proofs.Common.{Bool, ◌⊎◌, inl, inr}
use Rattle.std.proofs.Math.Nat.{eq-or-lt_of_le}
use Rattle.std.proofs.lemmas.Bool.{eqb-false, eqb-true}
use Rattle.std.proofs.lemmas.List.{replicate-append-replicate}
use Rattle.std.specs.Prelude.{replicate}
use Rattle.ct_algebra.specs.FreeOf.{IsWithout}
use Rattle.ct_algebra.specs.Monomial.{Mono, unit, exp, exp-·, exp-unit, ◌·◌}
use Rattle.ct_algebra.specs.Names.{symbol, exp-symbol, same_place, place_small}
use Rattle.ct_checked.specs.Checked.{Checked}
use Rattle.ct_frac.specs.Written.{Written}
use Rattle.ct_ore.specs.Naming.{Naming}
use Rattle.ct_module.specs.Action.{checked_act}
use Rattle.ct_module.specs.Columns.{symbols_of}
unfoldable use Rattle.ct_module.specs.Columns.{checked_free_column}
use Rattle.ct_module.specs.Modules.{WrittenModule}
use Rattle.ct_module.proofs.FreeColumns.{acting, fold_append, symbols_from, symbols_none}

abbrev once : Bool → ℕ
once b = cond b 1 0

exp-here : (i : Name) (γ : Mono) (k : ℕ) → k < 6 → k ≡ place i → exp (symbol i · γ) k ≡ exp γ k + 1
exp-here i γ k known same =
    exp-· (symbol i) γ k known ∙ ap (λ n. n + exp γ k) (exp-symbol i k known ∙ by (eqb k (place i)) refl)
    ∙ (let more : 1 + exp γ k ≡ exp γ k + 1 = omega arith in more)
  where
    by : (b : Bool) → eqb k (place i) ≡ b → once b ≡ 1
    by true is = refl
    by false is = absurd (eqb-false k (place i) is same)

exp-other : (i : Name) (γ : Mono) (k : ℕ) → k < 6 → (k ≡ place i → ⊥) → exp (symbol i · γ) k ≡ exp γ k
exp-other i γ k known apart =
    exp-· (symbol i) γ k known ∙ ap (λ n. n + exp γ k) (exp-symbol i k known ∙ by (eqb k (place i)) refl)
    ∙ (let none : 0 + exp γ k ≡ exp γ k = omega arith in none)
  where
    by : (b : Bool) → eqb k (place i) ≡ b → once b ≡ 0
    by true is = absurd (apart (eqb-true k (place i) is))
    by false is = refl

module _ (i : Name) (γ : Mono) (later : (k : ℕ) → place i < k → k < 6 → exp γ k ≡ 0) where
  -- the symbol of the name stands behind all others
  symbol_last :
      (n k : ℕ) → k ≤ place i → place i < k + n → k + n ≤ 6 → symbols_from (symbol i · γ) k n ≡ symbols_from γ k n ++ i ∷ []
  symbol_last zero k from below top = absurd (omega (arith, from, below))
  symbol_last (suc n) k from below top =
      by (eq-or-lt_of_le from) (λ less. symbol_last n (k + 1) (omega (arith, less)) (omega (arith, below)) (omega (arith, top)))
    where
      known : k < 6
      known = omega (arith, top)

      by :
          (k ≡ place i) ⊎ (k < place i) → (k < place i → symbols_from (symbol i · γ) (k + 1) n ≡ symbols_from γ (k + 1) n ++ i ∷ []) →
          symbols_from (symbol i · γ) k (suc n) ≡ symbols_from γ k (suc n) ++ i ∷ []
      by (inl same) rest =
          let none : (j : ℕ) → k + 1 ≤ j → j < k + 1 + n → exp γ j ≡ 0 =
          λ j above under. later j (omega (arith, same, above)) (omega (arith, top, under)) in
          ap₂ (λ e js. replicate e (name_with k) ++ js) (exp-here i γ k known same)
          (symbols_none (symbol i · γ) (k + 1) n (λ j above under.
          exp-other i γ j (omega (arith, top, under)) (λ at. absurd (omega (arith, same, above, at))) ∙ none j above under))
          ∙ append-nil _ ∙ sym (replicate-append-replicate (exp γ k) 1 (name_with k))
          ∙ ap₂ (λ js j. js ++ j ∷ [])
          (sym (append-nil _) ∙ ap (λ js. replicate (exp γ k) (name_with k) ++ js) (sym (symbols_none γ (k + 1) n none)))
          (same_place (name_with k) i (place-name_with k known ∙ same))
      by (inr less) rest =
          ap₂ (λ e js. replicate e (name_with k) ++ js) (exp-other i γ k known (λ at. absurd (omega (arith, less, at)))) (rest less)
          ∙ sym (append_assoc (replicate (exp γ k) (name_with k)) (symbols_from γ (k + 1) n) (i ∷ []))

-- the last of several steps
module _ (ns : List Naming) (m : WrittenModule) where
  last_step :
      (r : Checked (List Written)) (i : Name) →
      (r >>= (λ w. acting ns m w (i ∷ []))) ≡ (r >>= (λ w. checked_act ns m i w))
  last_step (Ok w) i = by (checked_act ns m i w)
    where
      by : (r : Checked (List Written)) → (r >>= (λ u. Ok u)) ≡ r
      by (Ok u) = refl
      by (Err e) = refl
  last_step (Err e) i = refl

  pub column-one : (v : List Written) → checked_free_column ns m v unit ≡ Ok v
  unfolding checked_free_column
  column-one v = ap (acting ns m v) (symbols_none unit 0 6 (λ k from below. exp-unit k below))

  pub column-symbol :
      (v : List Written) (i : Name) (γ : Mono) → ((k : Name) → place i < place k → IsWithout k γ) →
      checked_free_column ns m v (symbol i · γ) ≡ (checked_free_column ns m v γ >>= (λ w. checked_act ns m i w))
  unfolding checked_free_column
  column-symbol v i γ without =
      ap (acting ns m v) (symbol_last i γ (λ k above known.
      ap (exp γ) (sym (place-name_with k known)) ∙ without (name_with k) (subst (λ p. place i < p) (sym (place-name_with k known)) above))
      6 0 (omega arith) (place_small i) (omega arith))
      ∙ fold_append (λ w j. checked_act ns m j w) v (symbols_of γ) (i ∷ []) ∙ last_step (acting ns m v (symbols_of γ)) i
