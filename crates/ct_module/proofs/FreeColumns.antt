-- What symbols make of a vector one after the other, from any start. Main lemmas `leads_more`, cited where the loops of free columns go on,
-- `leads_end`, where they end, and `column_of_symbol`, which the law of columns cites.
use Rattle.ct_module.proofs.Base.{◌≡◌, refl, sym, ◌∙◌, ap, arith, ℕ, zero, suc, ◌+◌, ◌-◌, ◌<◌, ◌≤◌, List, [], ◌∷◌, ◌++◌, length, Result, Ok, Err, ◌>>=◌}
use Rattle.ct_module.proofs.Base.{range_with_len, K, Name, name_with, place, place-name_with}
use Rattle.std.specs.List.{flat_map}
use Rattle.std.specs.Prelude.{replicate}
use Rattle.ct_algebra.specs.Monomial.{Mono, exp}
use Rattle.ct_checked.specs.Checked.{Checked}
use Rattle.ct_checked.specs.Traversal.{checked_fold}
use Rattle.ct_frac.specs.Written.{Written}
use Rattle.ct_ore.specs.Naming.{Naming, actions_of}
use Rattle.ct_ore.proofs.PairMeasureLaws.{no_action}
use Rattle.ct_telescoping.specs.Staircase.{HasOperators}
use Rattle.ct_telescoping.specs.Vector.{Vector}
use Rattle.ct_module.specs.Action.{checked_act}
use Rattle.ct_module.specs.Columns.{symbols_of}
use Rattle.ct_module.specs.Modules.{WrittenModule, dimension}
use Rattle.ct_module.specs.Values.{vector_of, rows_by_value, made_by}
use Rattle.ct_module.proofs.Ranges.{range_opens}

-- ---- one list of steps after another

pub fold_append :
    {S X E : Type 0} (f : S → X → Result S E) (s : S) (xs ys : List X) →
    checked_fold f s (xs ++ ys) ≡ (checked_fold f s xs >>= (λ t. checked_fold f t ys))
fold_append f s [] ys = refl
fold_append {S} {X} {E} f s (x ∷ xs) ys = by (f s x) (λ t. fold_append f t xs ys)
  where
    by :
        (r : Result S E) → ((t : S) → checked_fold f t (xs ++ ys) ≡ (checked_fold f t xs >>= (λ u. checked_fold f u ys))) →
        (r >>= (λ t. checked_fold f t (xs ++ ys))) ≡ ((r >>= (λ t. checked_fold f t xs)) >>= (λ u. checked_fold f u ys))
    by (Ok t) rest = rest t
    by (Err e) rest = refl

module _ (ns : List Naming) (m : WrittenModule) where
  abbrev pub acting : List Written → List Name → Checked (List Written)
  acting v is = checked_fold (λ w j. checked_act ns m j w) v is

  abbrev making : List Name → List Written → Vector K (dimension m)
  making is v = made_by (actions_of ns) (dimension m) (rows_by_value m) is (vector_of (dimension m) v)

  -- the symbols make of the start what those that are left make of v
  pub record LeadsTo (start : List Written) (is : List Name) (v : List Written) (js : List Name) : Type 0 where
    pub steps : acting start is ≡ acting v js
    pub size : length v ≡ dimension m
    pub means : making is start ≡ making js v

  making-append : (is js : List Name) (v w : List Written) → vector_of (dimension m) w ≡ making is v → making (is ++ js) v ≡ making js w
  making-append is js v w made =
      go is (vector_of (dimension m) v) ∙ ap (made_by (actions_of ns) (dimension m) (rows_by_value m) js) (sym made)
    where
      go :
          (is : List Name) (x : Vector K (dimension m)) →
          made_by (actions_of ns) (dimension m) (rows_by_value m) (is ++ js) x ≡
          made_by (actions_of ns) (dimension m) (rows_by_value m) js (made_by (actions_of ns) (dimension m) (rows_by_value m) is x)
      go [] x = refl
      go (i ∷ is) x = go is _

  pub leads_more :
      (start : List Written) (is : List Name) (v w : List Written) (ls ks js : List Name) → LeadsTo start is v ls → ls ≡ ks ++ js →
      acting v ks ≡ Ok w → length w ≡ dimension m → vector_of (dimension m) w ≡ making ks v → LeadsTo start is w js
  leads_more start is v w ls ks js leads opens acted size made = record {
    steps = leads.steps ∙ ap (acting v) opens ∙ fold_append (λ w j. checked_act ns m j w) v ks js ∙ ap (λ r. r >>= (λ t. acting t js)) acted;
    size = size;
    means = leads.means ∙ ap (λ ls. making ls v) opens ∙ making-append ks js v w made;
  }

-- ---- the symbols of a monomial, by numbers

abbrev pub symbols_from : Mono → ℕ → ℕ → List Name
symbols_from m k n = flat_map (λ j. replicate (exp m j) (name_with j)) (range_with_len k n)

pub symbols_open : (m : Mono) (k : ℕ) → k < 6 → symbols_from m k (6 - k) ≡ replicate (exp m k) (name_with k) ++ symbols_from m (k + 1) (6 - (k + 1))
symbols_open m k small = ap (flat_map (λ j. replicate (exp m j) (name_with j))) (range_opens k 6 small)

pub symbols_none : (m : Mono) (k n : ℕ) → ((j : ℕ) → k ≤ j → j < k + n → exp m j ≡ 0) → symbols_from m k n ≡ []
symbols_none m k zero none = refl
symbols_none m k (suc n) none =
    ap (λ e. replicate e (name_with k) ++ symbols_from m (k + 1) n) (none k (omega arith) (omega arith))
    ∙ symbols_none m (k + 1) n (λ j from below. none j (omega (arith, from)) (omega (arith, below)))

-- past the names of an algebra there is no symbol
pub symbols_past : (ns : List Naming) (m : Mono) (k : ℕ) → HasOperators (actions_of ns) m → length ns ≤ k → k ≤ 6 → symbols_from m k (6 - k) ≡ []
symbols_past ns m k has past small =
    symbols_none m k (6 - k) (λ j from below.
    let known : j < 6 = omega (arith, below, small) in
    ap (exp m) (sym (place-name_with j known)) ∙ has (name_with j) (no_action ns j known (omega (arith, past, from))))
