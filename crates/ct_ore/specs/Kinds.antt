-- What k symbols of a name make of its power e, for each kind of operator: all that a product asks of a kind.
--     how_many t k e            how many terms they make
--     ways t k e j              the number before the term that lowers the power by j
--     symbols_left t k j        how many of the symbols stay before it
--     weight t k e              the sum of the numbers before all terms
--     pair_count a i k e, pair_weight a i k e    the first and the last for the name i
--     falling_power e j         e (e - 1) .. (e - j + 1), j factors;  choose n j  the binomial number
--     derivation_weight k e     the sum over j from 0 to k of choose k j times falling_power e j
-- A shift makes (x + k)^e: e + 1 terms for k above 0, of weight (1 + k)^e. A derivation makes a term for each way of
-- differentiating j times, by the rule of Leibniz. A name without operator makes the one term that there was.
use Rattle.std.specs.Prelude.{ℕ, zero, suc, ◌+◌, ◌-◌, ◌*◌, ◌^◌, min, cond, ltb}
use Rattle.ct_algebra.specs.Names.{Name}
use Rattle.ct_algebra.specs.Actions.{Action, by_action}

abbrev pub falling_power : ℕ → ℕ → ℕ
falling_power e zero = 1
falling_power e (suc j) = falling_power e j * (e - j)

abbrev pub choose : ℕ → ℕ → ℕ
choose n zero = 1
choose zero (suc j) = 0
choose (suc n) (suc j) = choose n j + choose n (suc j)

-- the sum over the j below n
abbrev pub ways_below : ℕ → ℕ → ℕ → ℕ
ways_below zero k e = 0
ways_below (suc j) k e = ways_below j k e + choose k j * falling_power e j

unfoldable pub derivation_weight : ℕ → ℕ → ℕ
derivation_weight k e = ways_below (k + 1) k e

-- ---- for a shift, a derivation and a name without operator

abbrev pub how_many : Action → ℕ → ℕ → ℕ
how_many t k e = by_action t (cond (ltb 0 k) (e + 1) 1) (min k e + 1) 1

abbrev pub ways : Action → ℕ → ℕ → ℕ → ℕ
ways t k e j = by_action t (choose e j * k ^ j) (choose k j * falling_power e j) 1

abbrev pub symbols_left : Action → ℕ → ℕ → ℕ
symbols_left t k j = by_action t k (k - j) k

abbrev pub weight : Action → ℕ → ℕ → ℕ
weight t k e = by_action t ((1 + k) ^ e) (derivation_weight k e) 1

module _ (a : Name → Action) where
  abbrev pub pair_count : Name → ℕ → ℕ → ℕ
  pair_count i k e = how_many (a i) k e

  abbrev pub pair_weight : Name → ℕ → ℕ → ℕ
  pair_weight i k e = weight (a i) k e
