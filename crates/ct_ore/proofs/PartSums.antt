-- Sums of coefficient terms that are listed by a number, and sums that Pascal's rule makes longer.
-- Main lemmas: `sum_of_parts-listed`, `sum_of_parts-each` (a map that respects sums, from what it makes of each term),
-- `pascal` (two neighbours of each term add up to the terms of the next row) and `sum_below-trimmed`.
use Rattle.ct_ore.proofs.Base.{◌≡◌, refl, ℕ, zero, suc, ◌+◌, ◌*◌, ◌<◌, ◌≤◌, ℤ, pos, ◌+ℤ◌, ◌*ℤ◌, List, [], ◌∷◌, sym, ◌∙◌, ap, ap₂, arith}
use Rattle.ct_ore.proofs.Base.{eq-or-lt_of_le, inl, inr, ◌⊎◌, flat_map, Group, IsHom, hom_zero, sum_below, times_plus, Operator, operator_group}
use Rattle.ct_ore.proofs.Base.{sums_are}
use Rattle.ct_algebra.specs.Laws.WholeNumbers.{int_mul_assoc}
use Rattle.ct_ore.specs.declared.coefficient_term.CoefficientTerm.{CoefficientTerm}
use Rattle.ct_ore.specs.CoefficientTerms.{key, part, sum_of_parts}
use Rattle.ct_ore.specs.PairTerms.{listed}
use Rattle.ct_ore.proofs.CoefficientSums.{sum_of_parts-append}

abbrev G : Group Operator
G = operator_group

-- ---- lists of coefficient terms

abbrev pub value_of : CoefficientTerm → Operator
value_of t = part (key t) t.number

pub sum_of_parts-none : sum_of_parts [] ≡ G.zero
unfolding sum_of_parts
sum_of_parts-none = refl

pub sum_of_parts-cons : (t : CoefficientTerm) (ts : List CoefficientTerm) → sum_of_parts (t ∷ ts) ≡ G.◌+◌ (value_of t) (sum_of_parts ts)
unfolding sum_of_parts
sum_of_parts-cons t ts = refl

pub sum_of_parts-listed :
    (n : ℕ) (f : ℕ → CoefficientTerm) → sum_of_parts (listed n f) ≡ sum_below G n (λ j. value_of (f j))
sum_of_parts-listed zero f = sum_of_parts-none
sum_of_parts-listed (suc n) f =
    sum_of_parts-append (listed n f) (f n ∷ []) ∙ sums_are _ _
    ∙ ap₂ G.◌+◌ (sum_of_parts-listed n f) (sum_of_parts-cons (f n) [] ∙ ap (G.◌+◌ (value_of (f n))) sum_of_parts-none ∙ G.add_zero _)

pub sum_of_parts-each :
    (φ : Operator → Operator) → IsHom G G φ → (g : CoefficientTerm → List CoefficientTerm) →
    ((t : CoefficientTerm) → sum_of_parts (g t) ≡ φ (value_of t)) → (ts : List CoefficientTerm) →
    sum_of_parts (flat_map g ts) ≡ φ (sum_of_parts ts)
sum_of_parts-each φ hom g each [] =
    sum_of_parts-none ∙ sym (ap φ sum_of_parts-none ∙ hom_zero {G = G} {H = G} {φ = φ} hom)
sum_of_parts-each φ hom g each (t ∷ ts) =
    sum_of_parts-append (g t) (flat_map g ts) ∙ sums_are _ _
    ∙ ap₂ G.◌+◌ (each t) (sum_of_parts-each φ hom g each ts)
    ∙ sym (ap φ (sum_of_parts-cons t ts) ∙ hom.sums _ _)

-- ---- rows of numbers

pub number_step :
    (c : ℤ) (p q g h : ℕ) →
    c *ℤ pos ((p + q) * (g * h)) ≡ c *ℤ pos (q * (g * h)) +ℤ (c *ℤ pos (p * g)) *ℤ pos h
number_step c p q g h =
    ap (λ n. c *ℤ pos n) (parted p q g h) ∙ times_plus c (pos (q * (g * h))) (pos ((p * g) * h))
    ∙ ap (λ z. c *ℤ pos (q * (g * h)) +ℤ z) (sym (int_mul_assoc c (pos (p * g)) (pos h)))
  where
    parted : (p q g h : ℕ) → (p + q) * (g * h) ≡ q * (g * h) + (p * g) * h
    parted p q g h = omega arith

module _ {A : Type 0} (H : Group A) where
  abbrev plus : A → A → A
  plus = H.◌+◌

  regroup : (s x y z : A) → plus (plus s (plus x y)) z ≡ plus (plus s x) (plus z y)
  regroup s x y z =
      ap (λ w. plus w z) (sym (H.add_assoc s x y)) ∙ H.add_assoc (plus s x) y z ∙ ap (plus (plus s x)) (H.add_comm y z)

  pub sum_below-trimmed :
      (m n : ℕ) (f : ℕ → A) → m ≤ n → ((j : ℕ) → m ≤ j → f j ≡ H.zero) → sum_below H n f ≡ sum_below H m f
  sum_below-trimmed m zero f few none = let same : zero ≡ m = omega arith in ap (λ k. sum_below H k f) same
  sum_below-trimmed m (suc n) f few none = by (eq-or-lt_of_le few) (λ less. sum_below-trimmed m n f less none)
    where
      by : (m ≡ suc n) ⊎ (m < suc n) → (m ≤ n → sum_below H n f ≡ sum_below H m f) → sum_below H (suc n) f ≡ sum_below H m f
      by (inl same) before = ap (λ k. sum_below H k f) (sym same)
      by (inr less) before = ap₂ plus (before (omega arith)) (none n (omega arith)) ∙ H.add_zero _

  module _ (B : ℕ → ℤ → A) (additive : (j : ℕ) (x y : ℤ) → B j (x +ℤ y) ≡ plus (B j x) (B j y))
      (w v u : ℕ → ℤ) (first : u 0 ≡ w 0) (next : (j : ℕ) → u (suc j) ≡ w (suc j) +ℤ v j) where
    rows : (n : ℕ) → plus (sum_below H n (λ j. plus (B j (w j)) (B (suc j) (v j)))) (B n (w n)) ≡ sum_below H (suc n) (λ j. B j (u j))
    rows zero = ap (λ x. plus H.zero (B 0 x)) (sym first)
    rows (suc n) =
        regroup _ (B n (w n)) (B (suc n) (v n)) (B (suc n) (w (suc n)))
        ∙ ap₂ plus (rows n) (sym (additive (suc n) (w (suc n)) (v n)) ∙ ap (B (suc n)) (sym (next n)))

    -- where the row ends
    pub pascal :
        (n : ℕ) → B n (w n) ≡ H.zero →
        sum_below H n (λ j. plus (B j (w j)) (B (suc j) (v j))) ≡ sum_below H (suc n) (λ j. B j (u j))
    pascal n end = sym (ap (plus (sum_below H n (λ j. plus (B j (w j)) (B (suc j) (v j))))) end ∙ H.add_zero _) ∙ rows n
