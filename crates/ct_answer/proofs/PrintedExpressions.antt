-- The expressions that printed polynomials and operators stand for.
--     power_expression p             a name or a symbol, or its power
--     term_expression n ps           a number and powers; 1 is left out before a power
--     sum_expression ts              the sum of terms with their signs; zero where there is none
--     polynomial_expression, operator_expression    as `specs/Text.antt` writes them
use Rattle.ct_answer.proofs.Base.{ℕ, ◌==◌, false, ℤ, pos, List, [], ◌∷◌, ◌++◌, map, flat_map, unsigned_abs, if◌then◌else◌, Mono, Polynomial, Operator}
use Rattle.ct_answer.proofs.Base.{Expr, Term, product_of, sum_of}
use Rattle.ct_answer.specs.declared.factors.Power.{Power}
use Rattle.ct_answer.specs.Text.{names_in, symbols_in, is_negative}
use Rattle.ct_expr.specs.declared.expr.Expr.TheVariants as e

-- ---- terms

abbrev pub base_expression : Power → Expr
base_expression p = if p.is_symbol then e.Symbol p.name else e.Name p.name

abbrev pub power_expression : Power → Expr
power_expression p = if p.exponent == 1 then base_expression p else e.Power (base_expression p) p.exponent

abbrev pub power_expressions : List Power → List Expr
power_expressions ps = map power_expression ps

-- the factors of a number and powers
abbrev pub factors_of : ℕ → List Power → List Expr
factors_of n [] = e.Whole (pos n) ∷ []
factors_of n (p ∷ ps) = if n == 1 then power_expressions (p ∷ ps) else e.Whole (pos n) ∷ power_expressions (p ∷ ps)

abbrev pub term_expression : ℕ → List Power → Expr
term_expression n ps = product_of (factors_of n ps)

abbrev pub signed_expression : ℤ → List Power → Term
signed_expression c ps = (is_negative c, term_expression (unsigned_abs c) ps)

-- ---- sums

abbrev pub sum_expression : List Term → Expr
sum_expression [] = e.Whole (pos 0)
sum_expression (t ∷ ts) = sum_of t.0 t.1 ts

abbrev pub entry_expression : Mono × ℤ → Term
entry_expression e = signed_expression e.1 (names_in e.0)

abbrev pub entry_expressions : List (Mono × ℤ) → List Term
entry_expressions es = map entry_expression es

abbrev pub polynomial_expression : Polynomial → Expr
polynomial_expression p = sum_expression (entry_expressions p.terms)

-- a coefficient before symbols
abbrev pub before_symbols : List (Mono × ℤ) → List Power → Term
before_symbols (e ∷ []) symbols = signed_expression e.1 (names_in e.0 ++ symbols)
before_symbols es symbols = (false, product_of (sum_expression (entry_expressions es) ∷ power_expressions symbols))

abbrev pub product_expressions : List (Mono × ℤ) → List Power → List Term
product_expressions es [] = entry_expressions es
product_expressions es (p ∷ ps) = before_symbols es (p ∷ ps) ∷ []

abbrev pub operator_entry_expressions : Mono × Polynomial → List Term
operator_entry_expressions e = product_expressions e.1.terms (symbols_in e.0)

abbrev pub operator_expressions : List (Mono × Polynomial) → List Term
operator_expressions es = flat_map operator_entry_expressions es

abbrev pub operator_expression : Operator → Expr
operator_expression p = sum_expression (operator_expressions p.terms)
