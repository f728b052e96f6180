-- A text stands for one expression at most, whose value can be asked for. Main lemmas `one_expression`, `is_operator` and
-- `is_polynomial`: the reader reads it from the tokens.
use Rattle.ct_answer.proofs.Base.{◌≡◌, ℕ, Bool, true, false, List, [], Ok, refl, sym, ap, ◌∙◌, append-nil, scan_of, Naming, IsAlgebra, Expr, declared}
use Rattle.ct_answer.proofs.Base.{IsOperator, IsPolynomial}
use Rattle.ct_problem.specs.Input.{Input, Outcome}
use Rattle.ct_problem.specs.Expressions.{expression}
use Rattle.ct_problem.proofs.Taking.{Taken}
use Rattle.ct_problem.proofs.ExpressionRules.{expression_rule}
use Rattle.ct_problem.proofs.WellFormedLines.{operator_of, polynomial_of}
use Rattle.ct_answer.specs.ReadBack.{IsSpelled}

module _ (names : List Naming) (operators : Bool) (text : List ℕ) where
  -- the whole text, before anything is read
  start : Input
  start = record { text = text; left = (scan_of text 0).tokens; bad = (scan_of text 0).bad }

  is_read : (x : Expr) → IsSpelled names operators x text → Taken (expression (declared names) operators) start x []
  unfolding start
  is_read x spelled =
      (expression_rule (scan_of text 0).bad (declared names) operators).whole x tt start _ [] refl (sym (append-nil _)) spelled.stands
      (record { no_divisor = refl; no_power = refl; no_factor = refl; no_plus = refl; no_minus = refl })

  pub one_expression : (x y : Expr) → IsSpelled names operators x text → IsSpelled names operators y text → x ≡ y
  one_expression x y first second =
      let one = is_read x first in
      let two = is_read y second in
      same x y one.left two.left (sym one.reads ∙ two.reads)
    where
      same : (x y : Expr) (i j : Input) → ◌≡◌ {A = Outcome Expr} (Ok (x, i)) (Ok (y, j)) → x ≡ y
      same x y i j e =
          let pairs : ◌≡◌ {A = Expr × Input} (x, i) (y, j) = cc in
          ap (λ (r : Expr × Input). r.0) pairs

pub is_operator : (names : List Naming) (text : List ℕ) (x : Expr) → IsAlgebra names → IsSpelled names true x text → IsOperator names x
is_operator names text x known spelled = operator_of (declared names) known.few x _ spelled.stands

pub is_polynomial : (names : List Naming) (text : List ℕ) (x : Expr) → IsAlgebra names → IsSpelled names false x text → IsPolynomial names x
is_polynomial names text x known spelled = polynomial_of (declared names) known.few x _ spelled.stands
