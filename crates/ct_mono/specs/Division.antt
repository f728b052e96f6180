-- Division of monomials.
--     Divides d m     some monomial times d is m
--     divides d m     the test: no exponent of d is above that of m
--     over m d        what times d is m, or none
-- Laws: `over_is` and `over_none` say that `over` finds it exactly where there is one, `over-·` that there is only one.
-- Cited by `Monomial::over`, and by exact division and left reduction above.
use Rattle.std.specs.Prelude.{◌≡◌, refl, ℕ, zero, suc, ◌-◌, ◌<◌, ◌≤◌, Bool, true, false, ◌&&◌, nat_le, None, Some, if◌then◌else◌, MatchOption}
use Rattle.std.proofs.Common.{Option, sym, ◌∙◌, ap, arith, below_more}
use Rattle.std.proofs.lemmas.Bool.{le-leb, leb-true}
use Rattle.ct_algebra.specs.Monomial.{Mono, exp, mono, exp-mono, same_mono, ◌·◌, exp-·}

abbrev pub Divides : Mono → Mono → Type 0
Divides d m = (t : Mono) × (t · d ≡ m)

-- the first n exponents of d are at most those of m
abbrev pub fits_below : ℕ → Mono → Mono → Bool
fits_below zero d m = true
fits_below (suc n) d m = fits_below n d m && nat_le (exp d n) (exp m n)

abbrev pub divides : Mono → Mono → Bool
divides d m = fits_below 6 d m

unfoldable pub over : Mono → Mono → Option Mono
over m d = if divides d m then Some (mono (λ i. exp m i - exp d i)) else None

-- ---- laws

both : (a b : Bool) → a ≡ true → b ≡ true → (a && b) ≡ true
both true b left right = right
both false b left right = left

first : (a b : Bool) → (a && b) ≡ true → a ≡ true
first true b passes = refl
first false b passes = passes

second : (a b : Bool) → (a && b) ≡ true → b ≡ true
second true b passes = passes
second false b passes = cc

fits : (n : ℕ) (d m : Mono) → ((i : ℕ) → i < n → exp d i ≤ exp m i) → fits_below n d m ≡ true
fits zero d m each = refl
fits (suc n) d m each =
    both _ _ (fits n d m (λ i small. each i (omega arith))) (le-leb (exp d n) (exp m n) (each n (omega arith)))

fits_at : (n : ℕ) (d m : Mono) → fits_below n d m ≡ true → (i : ℕ) → i < n → exp d i ≤ exp m i
fits_at zero d m fit i small = absurd (omega arith)
fits_at (suc n) d m fit i small =
    below_more (λ i. exp d i ≤ exp m i) n (fits_at n d m (first _ _ fit))
    (leb-true (exp d n) (exp m n) (second _ _ fit)) i (omega arith)

quotient_is : (m d : Mono) → divides d m ≡ true → mono (λ i. exp m i - exp d i) · d ≡ m
quotient_is m d fit =
    same_mono _ _ (λ i small.
    let below = fits_at 6 d m fit i small in omega (
      arith,
      exp-· (mono (λ i. exp m i - exp d i)) d i small,
      exp-mono (λ i. exp m i - exp d i) i small,
    ))

pub over_is : (m d t : Mono) → over m d ≡ Some t → t · d ≡ m
unfolding over
over_is m d t found = by (divides d m) refl found
  where
    by : (b : Bool) → divides d m ≡ b → (if b then Some (mono (λ i. exp m i - exp d i)) else None) ≡ Some t → t · d ≡ m
    by true fit found =
        let same : mono (λ i. exp m i - exp d i) ≡ t = cc in ap (λ t. t · d) (sym same) ∙ quotient_is m d fit
    by false fit found = cc

pub over-· : (t d : Mono) → over (t · d) d ≡ Some t
unfolding over
over-· t d =
    ap (λ b. if b then Some (mono (λ i. exp (t · d) i - exp d i)) else None)
    (fits 6 d (t · d) (λ i small. omega (arith, exp-· t d i small)))
    ∙ ap Some (same_mono _ _
    (λ i small. omega (arith, exp-· t d i small, exp-mono (λ i. exp (t · d) i - exp d i) i small)))

pub over_none : (m d : Mono) → over m d ≡ None → ¬ Divides d m
over_none m d missing (t, is) = let found = over-· t d in let same = ap (λ m. over m d) is in cc

-- where one exponent of d is greater, there is no quotient
pub over_refused : (m d : Mono) (i : ℕ) → i < 6 → exp m i < exp d i → over m d ≡ None
unfolding over
over_refused m d i small greater = by (divides d m) refl
  where
    by : (b : Bool) → divides d m ≡ b → (if b then Some (mono (λ i. exp m i - exp d i)) else None) ≡ None
    by true fit = let below = fits_at 6 d m fit i small in absurd (omega arith)
    by false fit = refl

-- both ways at once
pub over-meaning : (m d : Mono) → MatchOption (over m d) (¬ Divides d m) (λ t. t · d ≡ m)
over-meaning m d = by (over m d) refl
  where
    by : (o : Option Mono) → over m d ≡ o → MatchOption o (¬ Divides d m) (λ t. t · d ≡ m)
    by None missing = over_none m d missing
    by (Some t) found = over_is m d t found
