-- The grammar of expressions, as a relation: which lexemes stand for which expression.
--     EXPR   = ["-"] TERM { ("+" | "-") TERM }
--     TERM   = FACTOR { "*" FACTOR }
--     FACTOR = ATOM [ "^" NUMBER ]
--     ATOM   = NUMBER [ "/" NUMBER ] | NAME | "S" "[" NAME "]" | "D" "[" NAME "]" | "(" EXPR ")"
-- An EXPR of one term with no `-` before it is that term, and else the sum of its terms with their signs. A TERM of one factor
-- is that factor, and else the product of its factors. Parentheses leave no mark of their own. Numbers are at most the greatest
-- coefficient, the one behind `/` isn't 0, exponents are at most the greatest degree, and at most 64 parentheses are open at
-- once. A name is the first that was declared with its letters; `S` stands before a shift, `D` before a derivation. A polynomial
-- has neither.
--     IsExpression names operators x ls     these lexemes are an EXPR that stands for x, with operators or without
use Rattle.std.specs.Prelude.{◌≡◌, ◌≢◌, ℕ, zero, suc, Bool, false, if◌then◌else◌, List, [], ◌∷◌, map, position, slice_get, Some, IsTrue, pos, codes}
use Rattle.ct_algebra.specs.Actions.{Action, Shift, Derive}
use Rattle.ct_checked.specs.Limits.{largest_degree, largest_norm}
use Rattle.ct_expr.specs.declared.expr.Expr.{Expr}
use Rattle.ct_expr.specs.declared.expr.Expr.TheVariants as e
use Rattle.ct_expr.specs.declared.expr.Summand.{Summand, roll-Summand}
use Rattle.ct_problem.specs.Limits.{most_open}
use Rattle.ct_problem.specs.Names.{Names, is_named, acts_as}
use Rattle.ct_problem.specs.Lexemes.{Lexeme, Word, Sign, Texts, one, optional, number, ◌▸◌, each}
use Rattle.ct_problem.specs.Signs.{plus, minus, star, caret, open_parenthesis, close_parenthesis, open_bracket, close_bracket, slash}

-- ---- values

-- a product of one factor is that factor
unfoldable pub product_of : List Expr → Expr
product_of [] = e.Product []
product_of (only ∷ []) = only
product_of (first ∷ second ∷ more) = e.Product (first ∷ second ∷ more)

-- a term with its sign
abbrev pub summand : Bool → Expr → Summand
summand negative expr = roll-Summand (record { negative = negative; expr = expr })

-- whether a term is negative, and the term
abbrev pub Term : Type 0
Term = Bool × Expr

-- a sum of one term that isn't negative is that term
abbrev pub sum_of : Bool → Expr → List Term → Expr
sum_of false first [] = first
sum_of negative first more = e.Sum (summand negative first ∷ map (λ t. summand t.0 t.1) more)

-- ---- names

-- `S[NAME]` or `D[NAME]`, by the letters
abbrev pub symbol : List ℕ → List ℕ → Texts
symbol letter name = one (Word letter) ▸ one (Sign open_bracket) ▸ one (Word name) ▸ one (Sign close_bracket)

module _ (names : Names) where
  -- the first declared name of these letters has this number; `S` and `D` name nothing
  pub record IsVariable (letters : List ℕ) (at : ℕ) : Type 0 where
    pub no_shift : letters ≢ codes "S"
    pub no_derivation : letters ≢ codes "D"
    pub first : position (is_named letters) names.variables ≡ Some at

  -- the same, of a name with this action
  pub record IsActing (action : Action) (letters : List ℕ) (at : ℕ) : Type 0 where
    pub first : position (is_named letters) names.variables ≡ Some at
    pub acts : IsTrue (acts_as action (slice_get names.variables at))

  -- ---- the rules

  module _ (operators : Bool) where
    -- what may stand in parentheses, with them, is a parameter
    module _ (InParentheses : Expr → Texts) where
      pub data IsAtom (x : Expr) (ls : List Lexeme) : Type 0 where
        whole : (n : ℕ) → x ≡ e.Whole (pos n) → number largest_norm n ls → IsAtom x ls
        ratio : (n d : ℕ) → x ≡ e.Ratio (pos n) (pos d) → d ≢ 0 → (number largest_norm n ▸ one (Sign slash) ▸ number largest_norm d) ls → IsAtom x ls
        variable : (name : List ℕ) (at : ℕ) → IsVariable name at → x ≡ e.Name at → one (Word name) ls → IsAtom x ls
        shift : (name : List ℕ) (at : ℕ) → IsTrue operators → IsActing Shift name at → x ≡ e.Symbol at → symbol (codes "S") name ls → IsAtom x ls
        derivation : (name : List ℕ) (at : ℕ) → IsTrue operators → IsActing Derive name at → x ≡ e.Symbol at → symbol (codes "D") name ls → IsAtom x ls
        nested : InParentheses x ls → IsAtom x ls

      pub data IsFactor (x : Expr) (ls : List Lexeme) : Type 0 where
        plain : IsAtom x ls → IsFactor x ls
        power : (base : Expr) (n : ℕ) → x ≡ e.Power base n → (IsAtom base ▸ one (Sign caret) ▸ number largest_degree n) ls → IsFactor x ls

      -- `* FACTOR`
      abbrev pub IsMoreFactor : Expr → Texts
      IsMoreFactor x = one (Sign star) ▸ IsFactor x

      pub record IsTerm (x : Expr) (ls : List Lexeme) : Type 0 where
        pub first : Expr
        pub more : List Expr
        pub value : x ≡ product_of (first ∷ more)
        pub spelled : (IsFactor first ▸ each IsMoreFactor more) ls

      -- `+ TERM` or `- TERM`
      abbrev pub IsMoreTerm : Term → Texts
      IsMoreTerm t = one (Sign (if t.0 then minus else plus)) ▸ IsTerm t.1

      pub record IsSum (x : Expr) (ls : List Lexeme) : Type 0 where
        pub negative : Bool
        pub first : Expr
        pub more : List Term
        pub value : x ≡ sum_of negative first more
        pub spelled : (optional (Sign minus) negative ▸ IsTerm first ▸ each IsMoreTerm more) ls

    -- an expression in parentheses, so many of which may be open at once
    unfoldable pub IsNested : ℕ → Expr → Texts
    IsNested zero x ls = ⊥
    IsNested (suc depth) x ls = (one (Sign open_parenthesis) ▸ IsSum (IsNested depth) x ▸ one (Sign close_parenthesis)) ls

    abbrev pub IsExpression : Expr → Texts
    IsExpression x = IsSum (IsNested most_open) x
