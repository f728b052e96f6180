-- When a whole number passes its limit. Main lemmas `whole_fits`, `whole_passes` and `whole_ok`; `fits`, `passes` and `kept` are
-- the same of any limit.
use Rattle.ct_poly.proofs.Base.{◌≡◌, ℕ, ◌<◌, ◌≤◌, Bool, true, false, ltb, Ok, Err, None, ap, arith, lt-ltb, le-ltb, verdict, verdict_ok, verdict_fits}
use Rattle.ct_poly.proofs.Base.{verdict_refuses, largest_norm, Kind, Number}
use Rattle.std.specs.Prelude.{refl}
use Rattle.std.proofs.lemmas.Bool.{ltb-false}
use Rattle.ct_poly.specs.Measures.{broken}
use Rattle.ct_poly.specs.Wholes.{checked_whole}

pub fits : (limit n : ℕ) (kind : Kind) → n ≤ limit → verdict (broken (ltb limit n) kind None) n ≡ Ok n
fits limit n kind low = verdict_fits _ n n (ap (λ b. broken b kind None) (le-ltb limit n low)) refl

pub passes : (limit n : ℕ) (kind : Kind) → limit < n → verdict (broken (ltb limit n) kind None) n ≡ Err kind
passes limit n kind high = verdict_refuses _ n kind (ap (λ b. broken b kind None) (lt-ltb limit n high))

-- a number that was not refused
pub record Kept (limit n r : ℕ) : Type 0 where
  pub same : n ≡ r
  pub low : r ≤ limit

pub kept : (limit n r : ℕ) (kind : Kind) → verdict (broken (ltb limit n) kind None) n ≡ Ok r → Kept limit n r
kept limit n r kind fits = by (ltb limit n) refl fits
  where
    by : (b : Bool) → ltb limit n ≡ b → verdict (broken b kind None) n ≡ Ok r → Kept limit n r
    by true told answer = unfold verdict in cc
    by false told answer =
        let same : n ≡ r = verdict_ok None n r answer in
        record { same = same; low = let low = ltb-false limit n told in omega arith }

pub whole_fits : (n : ℕ) → n ≤ largest_norm → checked_whole n ≡ Ok n
unfolding checked_whole
whole_fits n low = fits largest_norm n Number low

pub whole_passes : (n : ℕ) → largest_norm < n → checked_whole n ≡ Err Number
unfolding checked_whole
whole_passes n high = passes largest_norm n Number high

pub whole_ok : (n r : ℕ) → checked_whole n ≡ Ok r → Kept largest_norm n r
unfolding checked_whole
whole_ok n r answer = kept largest_norm n r Number answer
