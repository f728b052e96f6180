-- The source and the sink over memory, as contracts see them. This project's own.
--     Stock        what a source over memory has left, and which of its calls fail
--     Store        what a sink over memory took, how much it has room for, and which of its calls fail
-- A call has the number of calls before it. `step` is the most that one call reads or writes.
use Rattle.std.specs.Prelude.{List, ℕ}

-- a source over memory
pub record Stock : Type 0 where
  pub left : List ℕ
  pub step : ℕ
  pub fails : List ℕ
  pub calls : ℕ
  pub faults : ℕ

-- a sink over memory
pub record Store : Type 0 where
  pub taken : List ℕ
  pub space : ℕ
  pub step : ℕ
  pub fails : List ℕ
  pub calls : ℕ
  pub faults : ℕ
