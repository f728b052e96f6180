-- The numbers before the terms of a pair are positive up to the last. Main lemma `ways-positive`.
use Rattle.ct_ore.proofs.Base.{ℕ, zero, suc, ◌+◌, ◌<◌, ◌≤◌, ltb, cond, Bool, true, false, sym, subst, arith, lit<, mul-pos, pow-zero, Action, Shift}
use Rattle.ct_ore.proofs.Base.{Derive, Still}
use Rattle.ct_ore.specs.Kinds.{choose, falling_power, how_many, ways}
use Rattle.ct_ore.proofs.PairWeightLaws.{power_positive}

choose-positive : (k j : ℕ) → j ≤ k → 0 < choose k j
choose-positive k zero within = lit< tt
choose-positive zero (suc j) within = absurd (omega arith)
choose-positive (suc k) (suc j) within = omega (arith, choose-positive k j (omega arith))

falling_power-positive : (e j : ℕ) → j ≤ e → 0 < falling_power e j
falling_power-positive e zero within = lit< tt
falling_power-positive e (suc j) within =
    mul-pos (falling_power-positive e j (omega arith)) (omega arith)

pub ways-positive : (t : Action) (k e j : ℕ) → j < how_many t k e → 0 < ways t k e j
ways-positive Shift zero e zero below = mul-pos {m = choose e 0} (lit< tt) (subst (λ x. 0 < x) (sym (pow-zero 0)) (lit< tt))
ways-positive Shift zero e (suc j) below = absurd (omega (arith, below))
ways-positive Shift (suc k) e j below = mul-pos (choose-positive e j (by (ltb 0 (suc k)) below)) (power_positive (suc k) j (omega arith))
  where
    by : (b : Bool) → j < cond b (e + 1) 1 → j ≤ e
    by true h = omega arith
    by false h = omega arith
ways-positive Derive k e j below =
    mul-pos (choose-positive k j (omega arith)) (falling_power-positive e j (omega arith))
ways-positive Still k e j below = lit< tt
