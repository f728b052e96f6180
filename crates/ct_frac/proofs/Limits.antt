-- When an exponent passes its limit. Main lemmas `exponent_fits`, `exponent_passes` and `exponent_ok`, which the calls and the
-- laws on values cite.
use Rattle.ct_frac.proofs.Base.{◌≡◌, ℕ, ◌<◌, ◌≤◌, Ok, Err, largest_degree, fits, passes, Kept, kept}
use Rattle.ct_checked.specs.declared.fault.Kind.TheVariants.{Degree}
use Rattle.ct_frac.specs.Arithmetic.{checked_exponent}

pub exponent_fits : (n : ℕ) → n ≤ largest_degree → checked_exponent n ≡ Ok n
unfolding checked_exponent
exponent_fits n low = fits largest_degree n Degree low

pub exponent_passes : (n : ℕ) → largest_degree < n → checked_exponent n ≡ Err Degree
unfolding checked_exponent
exponent_passes n high = passes largest_degree n Degree high

pub exponent_ok : (n r : ℕ) → checked_exponent n ≡ Ok r → Kept largest_degree n r
unfolding checked_exponent
exponent_ok n r answer = kept largest_degree n r Degree answer
