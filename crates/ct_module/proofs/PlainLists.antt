-- Plain facts on lists. Main lemmas `get_or_inside`: within a list nothing is read past its end; and `set_only`: zeros with one entry
-- set are `only_at`.
use Rattle.ct_module.proofs.Base.{◌≡◌, refl, ℕ, zero, suc, ◌+◌, ◌<◌, ◌≤◌, List, [], ◌∷◌, length, get_or, map, cond, eqb, sym, ◌∙◌, ap, ap₂, arith}
use Rattle.ct_module.proofs.Base.{range_with_len}
use Rattle.std.proofs.Common.{eq-eqb, replicate, slice_set}
use Rattle.std.proofs.lemmas.Bool.{ne_eqb}

pub get_or_inside : {X : Type 0} (xs : List X) (k : ℕ) (d e : X) → k < length xs → get_or xs k d ≡ get_or xs k e
get_or_inside [] k d e small = absurd (omega arith)
get_or_inside (x ∷ xs) zero d e small = refl
get_or_inside (x ∷ xs) (suc k) d e small = get_or_inside xs k d e (omega arith)

module _ {X : Type 0} (z f : X) where
  abbrev chosen : ℕ → ℕ → X
  chosen b j = cond (eqb j b) f z

  none_there : (n k b : ℕ) → b < k → replicate n z ≡ map (chosen b) (range_with_len k n)
  none_there zero k b less = refl
  none_there (suc n) k b less =
      ap₂ ◌∷◌ (sym (ap (λ t. cond t f z) (ne_eqb k b (λ same. omega arith)))) (none_there n (k + 1) b (omega arith))

  set_from : (n k e : ℕ) → slice_set (replicate n z) e f ≡ map (chosen (k + e)) (range_with_len k n)
  set_from zero k e = refl
  set_from (suc n) k zero =
      ap₂ ◌∷◌ (sym (ap (λ t. cond t f z) (eq-eqb k (k + 0) (omega arith)))) (none_there n (k + 1) (k + 0) (omega arith))
  set_from (suc n) k (suc e) =
      ap₂ ◌∷◌ (sym (ap (λ t. cond t f z) (ne_eqb k (k + suc e) (λ same. omega arith))))
      (set_from n (k + 1) e ∙ ap (λ b. map (chosen b) (range_with_len (k + 1) n)) (let same : k + 1 + e ≡ k + suc e = omega arith in same))

  pub set_only : (n e : ℕ) → slice_set (replicate n z) e f ≡ map (λ k. cond (eqb k e) f z) (range_with_len 0 n)
  set_only n e = set_from n 0 e ∙ ap (λ b. map (chosen b) (range_with_len 0 n)) (let same : 0 + e ≡ e = omega arith in same)
