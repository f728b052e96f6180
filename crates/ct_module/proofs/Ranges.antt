-- Numbers in order, and entries that are appended one by one.
use Rattle.ct_module.proofs.Base.{◌≡◌, refl, sym, ◌∙◌, ap, arith, ℕ, zero, suc, ◌+◌, ◌-◌, ◌<◌, List, [], ◌∷◌, ◌++◌, length, range_with_len, K}
use Rattle.ct_module.proofs.Base.{get_or_append_left, get_or-append-add}
use Rattle.std.proofs.Common.{◌⊎◌, inl, inr}
use Rattle.std.proofs.Math.Nat.{eq-or-lt_of_le}
use Rattle.ct_frac.specs.Written.{Written, value}
use Rattle.ct_module.specs.Modules.{written_zero}
use Rattle.ct_module.specs.Values.{values}

pub range_opens : (k n : ℕ) → k < n → range_with_len k (n - k) ≡ k ∷ range_with_len (k + 1) (n - (k + 1))
range_opens k n some = by (n - k) refl
  where
    by : (m : ℕ) → n - k ≡ m → range_with_len k m ≡ k ∷ range_with_len (k + 1) (n - (k + 1))
    by zero is = absurd (omega (arith, some, is))
    by (suc m) is =
        ap (λ j. k ∷ range_with_len (k + 1) j) (let left : m ≡ n - (k + 1) = omega (arith, is) in left)

pub values_more :
    (P : ℕ → K) (made : List Written) (r : Written) → ((c : ℕ) → c < length made → values made c ≡ P c) → value r ≡ P (length made) →
    (c : ℕ) → c < length made + 1 → values (made ++ r ∷ []) c ≡ P c
values_more P made r before last c within = by (eq-or-lt_of_le (omega (arith, within)))
  where
    by : (c ≡ length made) ⊎ (c < length made) → values (made ++ r ∷ []) c ≡ P c
    by (inl same) =
        ap (values (made ++ r ∷ [])) (same ∙ (let plus : length made ≡ length made + 0 = omega arith in plus))
        ∙ ap value (get_or-append-add made (r ∷ []) 0 written_zero) ∙ last ∙ ap P (sym same)
    by (inr less) = ap value (get_or_append_left made (r ∷ []) written_zero c less) ∙ before c less
