-- What an index comes to after a number of turns.
--     turn_of value       x(2x + 1) + c modulo 2^64, a permutation of the words, so no turn can be left out
--     turned seed turns   the seed after `turns` of them
use Rattle.std.specs.Prelude.{ℕ, zero, suc, ◌+◌, ◌*◌, ◌%◌, ◌^◌}

-- one turn
abbrev pub turn_of : ℕ → ℕ
turn_of value = ((value * (((value * 2) % 2 ^ 64 + 1) % 2 ^ 64)) % 2 ^ 64 + 1442695040888963407) % 2 ^ 64

-- the seed after `turns` turns
abbrev pub turned : ℕ → ℕ → ℕ
turned seed zero = seed
turned seed (suc turns) = turn_of (turned seed turns)
