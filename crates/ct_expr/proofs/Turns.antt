-- A recursion on a count of turns, or on a list, beside a loop that goes up.
use Rattle.ct_expr.proofs.Base.{◌≡◌, ℕ, suc, ◌+◌, ◌-◌, ◌<◌, ◌≤◌, List, [], ◌∷◌, length, drop, get_or, ap, ap₂, sym, ◌∙◌, arith, drop-cons, drop_all}

module _ {X : Type 0} {x : X} (f : ℕ → X) (n at : ℕ) where
  pub one_more : at < n → x ≡ f (n - at) → x ≡ f (suc (n - (at + 1)))
  one_more below e = let turn : n - at ≡ suc (n - (at + 1)) = omega arith in e ∙ ap f turn

  pub no_more : n ≤ at → x ≡ f (n - at) → x ≡ f 0
  no_more done e = let none : n - at ≡ 0 = omega arith in e ∙ ap f none

pub deeper : {X : Type 0} (f : ℕ → X) (n : ℕ) → 0 < n → f n ≡ f (suc (n - 1))
deeper f n some = let e : n ≡ suc (n - 1) = omega arith in ap f e

-- a list from a place on
pub next_item : {Y : Type 0} (ys : List Y) (at : ℕ) (y : Y) → at < length ys → y ≡ get_or ys at y → drop at ys ≡ y ∷ drop (at + 1) ys
next_item ys at y below here =
    let next : suc at ≡ at + 1 = omega arith in
    drop-cons ys at y below ∙ ap₂ (λ z n. z ∷ drop n ys) (sym here) next

module _ {X Y : Type 0} {x : X} (f : List Y → X) (ys : List Y) (at : ℕ) where
  pub one_item : (y : Y) → at < length ys → y ≡ get_or ys at y → x ≡ f (drop at ys) → x ≡ f (y ∷ drop (at + 1) ys)
  one_item y below here e = e ∙ ap f (next_item ys at y below here)

  pub no_item : length ys ≤ at → x ≡ f (drop at ys) → x ≡ f []
  no_item done e = e ∙ ap f (drop_all at ys done)
