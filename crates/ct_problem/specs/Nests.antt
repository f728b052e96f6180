-- A function value that reads an expression in parentheses under names, so many of which may still be opened.
use Rattle.std.specs.Prelude.{ℕ, Bool, Result}
use Rattle.std.specs.declared.alloc.Global.{Global}
use denote.Ref.{Bor, MutBor}
use Rattle.ct_expr.specs.declared.expr.Expr.{Expr}
use Rattle.ct_problem.specs.declared.fault.ReadFault.{ReadFault}
use Rattle.ct_problem.specs.Expressions.{nested}
use Rattle.ct_problem.specs.Input.{Input, Reads}
use Rattle.ct_problem.specs.Names.{Names}

pub record Nests (operators : Bool) (depth : ℕ) (pre : Global → Bor Names → MutBor Input → Bool → ℕ → Type 0)
    (post : Global → Bor Names → MutBor Input → Bool → ℕ → Result Expr ReadFault → MutBor Input → Type 0) : Type 0 where
  pub callable : (alloc : Global) (names : Bor Names) (old : MutBor Input) → pre alloc names old operators depth
  pub reads : (alloc : Global) (names : Bor Names) (old new : MutBor Input) (r : Result Expr ReadFault) → post alloc names old operators depth r new → Reads (nested names.now operators depth old.now) r new.now
