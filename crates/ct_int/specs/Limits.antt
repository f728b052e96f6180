-- The limit of the parts of a rational number (this project's own), and where a call passes it.
--     largest_whole          2^127 - 1
--     IsRational r           a ratio in lowest terms, both parts within the limit: what a `Rat` is seen as
--     SumPasses p q          where a sum or a difference overflows, judged by its operands
--     LowestTermsPass p      where a product or a quotient overflows: judged after everything was cancelled
--     RefusesWhere fault P r    a call answers this fault exactly where P holds, and no other fault
-- A sum is judged by its operands: with B = 2^127 - 1, B/1 − 1/1 overflows although its value is within the limit. Cited by
-- each call of `Rat` that can fail.
use Rattle.std.specs.Prelude.{◌≡◌, ℕ, ◌+◌, ◌*◌, ◌/◌, ◌<◌, ◌≤◌, ◌⊎◌, unsigned_abs, Ok, Err}
use Rattle.std.proofs.Common.{Result}
use Rattle.std.specs.Int.{IsGcd}
use Rattle.ct_int.specs.Rational.{Ratio, IsLowest, IsLowestTerms}
use Rattle.ct_int.specs.declared.fault.IntFault.{IntFault}

abbrev pub largest_whole : ℕ
largest_whole = 170141183460469231731687303715884105727

pub record IsRational (r : Ratio) : Type 0 where
  pub lowest : IsLowest r
  pub num_within : unsigned_abs r.num ≤ largest_whole
  pub den_within : r.den ≤ largest_whole

-- |a|·(d/g) + |c|·(b/g) or (b/g)·d is past the limit, for a/b and c/d and the greatest common divisor g of b and d
pub record SumPasses (p q : Ratio) : Type 0 where
  pub divisor : ℕ
  pub greatest : IsGcd p.den q.den divisor
  pub past : (largest_whole < unsigned_abs p.num * (q.den / divisor) + unsigned_abs q.num * (p.den / divisor)) ⊎ (largest_whole < p.den / divisor * q.den)

-- a part of the lowest terms is past the limit
pub record LowestTermsPass (p : Ratio) : Type 0 where
  pub terms : Ratio
  pub lowest : IsLowestTerms p terms
  pub past : (largest_whole < unsigned_abs terms.num) ⊎ (largest_whole < terms.den)

-- a call answers the fault exactly where P holds, and no other
abbrev pub RefusesWhere : {A : Type 0} → IntFault → Type 0 → Result A IntFault → Type 0
RefusesWhere fault P (Ok r) = P → ⊥
RefusesWhere fault P (Err e) = (e ≡ fault) × P
