-- What symbols make of a list, before a polynomial: where there are none the list stays, and the product of a sorted list is
-- that of the list. Main lemmas `raised_none`, `expanded_none`, `product_of_sorted`.
use Rattle.ct_ore.proofs.Base.{◌≡◌, refl, ℕ, zero, suc, ◌+◌, ◌-◌, ◌*◌, pos, ◌*ℤ◌, List, [], ◌∷◌, ◌++◌, length, sym, ◌∙◌, ap, ap₂, arith, append-nil}
use Rattle.ct_ore.proofs.Base.{mul-le-mul_left, flat_map-append, Mono, exp, total, Name, name_with, Action, Shift, Derive, Still, Polynomial, norm_of}
use Rattle.ct_ore.proofs.Base.{multiple, with_exponent}
use Rattle.ct_algebra.specs.WholeNumbers.{times_one}
use Rattle.ct_ore.specs.declared.coefficient_term.CoefficientTerm.{CoefficientTerm}
use Rattle.ct_ore.specs.CoefficientTerms.{size_of, sum_of_parts}
use Rattle.ct_ore.specs.PairTerms.{listed, moved_term, lowered_term, raised_term, raised, expanded_below, expanded, multiplied_by, product_terms}
use Rattle.ct_ore.specs.Kinds.{how_many, ways, symbols_left}
use Rattle.ct_ore.specs.AllNames.{number_of_names, total_below}
use Rattle.ct_ore.specs.Lists.{IsSum, IsSorted}
use Rattle.ct_ore.proofs.ChangedExponents.{with_same}
use Rattle.ct_ore.proofs.Multiples.{size_scaled, length_scaled}
use Rattle.ct_ore.proofs.PairMeasureLaws.{six_total}
use Rattle.ct_ore.proofs.PairProduct.{multiplied_by-value}
use Rattle.ct_ore.proofs.SortedSums.{sum_of_same}
use native.Mathlib.Nat.{pow-zero}

-- ---- no symbols

same_term : (i s w : ℕ) (u : CoefficientTerm) → s ≡ 0 → w ≡ 1 → moved_term i (exp u.names i - 0) s w u ≡ u
same_term i s w u no_more once = λ j. record { symbols = symbols j; names = names j; number = number j }
  where
    symbols : with_exponent i (exp u.symbols i + s) u.symbols ≡ u.symbols
    symbols = ap (λ e. with_exponent i e u.symbols) (omega (arith, no_more)) ∙ with_same i u.symbols

    names : with_exponent i (exp u.names i - 0) u.names ≡ u.names
    names = ap (λ e. with_exponent i e u.names) (omega arith) ∙ with_same i u.names

    number : u.number *ℤ pos w ≡ u.number
    number = ap (λ n. u.number *ℤ pos n) once ∙ times_one u.number

none_left : (t : Action) → symbols_left t 0 0 ≡ 0
none_left Shift = refl
none_left Derive = refl
none_left Still = refl

one_way : (t : Action) (e : ℕ) → ways t 0 e 0 ≡ 1
one_way Shift e = ap (λ p. 1 * p) (pow-zero 0)
one_way Derive e = refl
one_way Still e = refl

just_one : (t : Action) (e : ℕ) → how_many t 0 e ≡ 1
just_one Shift e = refl
just_one Derive e = omega arith
just_one Still e = refl

pub raised_none : (t : Action) (i k : ℕ) → k ≡ 0 → (ts : List CoefficientTerm) → raised t i k ts ≡ ts
raised_none t i k none ts = ap (λ n. raised t i n ts) none ∙ go ts
  where
    one : (u : CoefficientTerm) → raised_term t i 0 u ≡ u ∷ []
    one u =
        ap (λ n. listed n (lowered_term t i 0 u)) (just_one t (exp u.names i))
        ∙ ap (λ v. v ∷ []) (same_term i (symbols_left t 0 0) (ways t 0 (exp u.names i) 0) u (none_left t) (one_way t (exp u.names i)))

    go : (ts : List CoefficientTerm) → raised t i 0 ts ≡ ts
    go [] = refl
    go (u ∷ ts) = ap₂ ◌++◌ (one u) (go ts)

expanded_below_none : (a : Name → Action) (m : Mono) (n : ℕ) → total_below n m ≡ 0 → (ts : List CoefficientTerm) → expanded_below a n m ts ≡ ts
expanded_below_none a m zero none ts = refl
expanded_below_none a m (suc n) none ts =
    ap (expanded_below a n m) (raised_none (a (name_with n)) n (exp m n) (omega (arith, none)) ts)
    ∙ expanded_below_none a m n (omega (arith, none)) ts

pub expanded_none : (a : Name → Action) (m : Mono) → total m ≡ 0 → (ts : List CoefficientTerm) → expanded a m ts ≡ ts
unfolding expanded
expanded_none a m none ts = expanded_below_none a m number_of_names (omega (arith, six_total m, none)) ts

-- ---- a polynomial before them

pub product_of_sorted :
    (a : Name → Action) (e : Mono × Polynomial) (ts : List CoefficientTerm) {vs ws : List CoefficientTerm} →
    IsSorted (expanded a e.0 ts) vs → IsSum (multiplied_by e.1.terms vs) ws → IsSum (product_terms a (e ∷ []) ts) ws
product_of_sorted a e ts {vs} {ws} made sum =
    let whole : product_terms a (e ∷ []) ts ≡ multiplied_by e.1.terms (expanded a e.0 ts) = append-nil _ in
    sum_of_same (multiplied_by-value a e.1 vs ∙ ap (multiple a e.1) made.sum.value ∙ sym (multiplied_by-value a e.1 (expanded a e.0 ts))
    ∙ ap sum_of_parts (sym whole))
    (omega (
      arith,
      ap length whole,
      length_scaled e.1.terms vs,
      length_scaled e.1.terms (expanded a e.0 ts),
      mul-le-mul_left (length e.1.terms) made.sum.few,
    ))
    (omega (
      arith,
      ap size_of whole,
      size_scaled e.1.terms vs,
      size_scaled e.1.terms (expanded a e.0 ts),
      mul-le-mul_left (norm_of e.1.terms) made.sum.small,
    ))
    sum

pub product_parts :
    (a : Name → Action) (ts : List CoefficientTerm) {es : List (Mono × Polynomial)} (xs ys : List (Mono × Polynomial)) → es ≡ xs ++ ys →
    product_terms a es ts ≡ product_terms a xs ts ++ product_terms a ys ts
product_parts a ts xs ys whole =
    ap (λ es. product_terms a es ts) whole
    ∙ flat_map-append (λ (e : Mono × Polynomial). multiplied_by e.1.terms (expanded a e.0 ts)) xs ys
