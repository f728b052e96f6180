-- The bytes between two places, as the code cuts them.
use Rattle.ct_problem.proofs.Base.{◌≡◌, ℕ, ◌-◌, ◌≤◌, min, Bool, true, false, List, length, take, drop, refl, sym, ap, ◌∙◌, arith, rules, tests}
use Rattle.ct_problem.proofs.Base.{nat_le, take_all, drop_all, slice, slice_of}

take_least : (n : ℕ) (xs : List ℕ) → take (min n (length xs)) xs ≡ take n xs
take_least n xs = by (nat_le n (length xs)) refl
  where
    by : (fits : Bool) → nat_le n (length xs) ≡ fits → take (min n (length xs)) xs ≡ take n xs
    by true e = let least : min n (length xs) ≡ n = first_of (search (rules, tests), grind (arith, tests)) in ap (λ (k : ℕ). take k xs) least
    by false e =
        let least : min n (length xs) ≡ length xs = first_of (search (rules, tests), grind (arith, tests)) in
        let less : length xs ≤ n = first_of (search (rules, tests), grind (arith, tests)) in
        let same : length xs ≤ length xs = omega arith in
        ap (λ (k : ℕ). take k xs) least ∙ take_all (length xs) xs same ∙ sym (take_all n xs less)

drop_least : (n : ℕ) (xs : List ℕ) → drop (min n (length xs)) xs ≡ drop n xs
drop_least n xs = by (nat_le n (length xs)) refl
  where
    by : (fits : Bool) → nat_le n (length xs) ≡ fits → drop (min n (length xs)) xs ≡ drop n xs
    by true e = let least : min n (length xs) ≡ n = first_of (search (rules, tests), grind (arith, tests)) in ap (λ (k : ℕ). drop k xs) least
    by false e =
        let least : min n (length xs) ≡ length xs = first_of (search (rules, tests), grind (arith, tests)) in
        let less : length xs ≤ n = first_of (search (rules, tests), grind (arith, tests)) in
        let same : length xs ≤ length xs = omega arith in
        ap (λ (k : ℕ). drop k xs) least ∙ drop_all (length xs) xs same ∙ sym (drop_all n xs less)

pub slice_of-slice : (from to : ℕ) (text : List ℕ) → slice_of from to text ≡ slice from to text
unfolding slice_of
slice_of-slice from to text = rw (drop_least from text) (take_least (to - from) (drop from text))
