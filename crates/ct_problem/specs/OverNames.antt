-- Expressions over the names of an algebra.
--     is_over ns x     what x names stands in the list, its symbols are of names that have an operator, and no sum or product in
--                      it is empty
use Rattle.std.specs.Prelude.{Bool, true, false, ◌&&◌, List, [], ◌∷◌, slice_get, Option, Some, None}
use Rattle.ct_ore.specs.Naming.{Naming, has_operator}
use Rattle.ct_expr.specs.declared.expr.Expr.{Expr}
use Rattle.ct_expr.specs.declared.expr.Summand.{Summand}
use Rattle.ct_expr.specs.declared.expr.Expr.TheFolds.{fold-Expr, fold-Summand}
use Rattle.ct_expr.specs.declared.expr.Expr.TheOpen.{Expr-F}
use Rattle.ct_expr.specs.Value.{all_true, term_step}

abbrev pub is_listed : Option Naming → Bool
is_listed (Some n) = true
is_listed None = false

abbrev pub has_symbol : Option Naming → Bool
has_symbol (Some n) = has_operator n
has_symbol None = false

-- at least one, and all true
abbrev pub some_all_true : List Bool → Bool
some_all_true [] = false
some_all_true (b ∷ bs) = b && all_true bs

module _ (ns : List Naming) where
  unfoldable pub over_step : Expr-F Bool Bool → Bool
  over_step (Expr-F.Whole n) = true
  over_step (Expr-F.Ratio n d) = true
  over_step (Expr-F.Name i) = is_listed (slice_get ns i)
  over_step (Expr-F.Symbol i) = has_symbol (slice_get ns i)
  over_step (Expr-F.Sum terms) = some_all_true terms
  over_step (Expr-F.Product factors) = some_all_true factors
  over_step (Expr-F.Power base n) = base

  unfoldable pub is_over : Expr → Bool
  is_over = fold-Expr Bool Bool over_step term_step

  unfoldable pub is_over_term : Summand → Bool
  is_over_term = fold-Summand Bool Bool over_step term_step
