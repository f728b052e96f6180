-- The grammar of `let` lines, as a relation: which lexemes stand for which definitions.
--     let NAME = gens EXPR; EXPR; ...      1 to 16 expressions
--     let NAME = plus NAME NAME
--     let NAME = product NAME NAME
--     let NAME = apply NAME: EXPR
--     declared text names            a NAME that may be declared behind these names: at most 32 bytes, new, and neither `S` nor `D`
--     list names at                  the NAME of the `let` line with this number
--     let_lines variables ds         the lines of these definitions, behind these declared names
use Rattle.std.specs.Prelude.{◌≡◌, ◌≤◌, ℕ, true, List, [], ◌∷◌, ◌++◌, length, position, Some, None, IsTrue, codes}
use Rattle.std.specs.Str.{bytes_eq}
use Rattle.ct_ore.specs.Naming.{Naming}
use Rattle.ct_expr.specs.declared.expr.Expr.{Expr}
use Rattle.ct_problem.specs.declared.problem.LetForm.{LetForm}
use Rattle.ct_problem.specs.declared.problem.LetForm.TheVariants.{Gens, Plus, Product, Apply}
use Rattle.ct_problem.specs.Grammar.{IsExpression}
use Rattle.ct_problem.specs.LetLines.{Definition, with_definitions}
use Rattle.ct_problem.specs.Lexemes.{Lexeme, Word, Sign, LineEnd, Texts, nothing, one, ◌▸◌, each}
use Rattle.ct_problem.specs.Limits.{longest_name, most_lets, most_listed}
use Rattle.ct_problem.specs.Names.{Names, is_named, is_new}
use Rattle.ct_problem.specs.Signs.{colon, semicolon, equals}

-- no list at all
abbrev pub none : Texts
none ls = ⊥

-- ---- names

module _ (names : Names) where
  -- a text that may be declared
  pub record IsDeclarable (text : List ℕ) : Type 0 where
    pub short : length text ≤ longest_name
    pub other : IsTrue (is_new text names)

  abbrev pub declared : List ℕ → Texts
  declared text ls = IsDeclarable text × one (Word text) ls

  -- no declared name has these letters, and the first `let` line of them has this number
  pub record IsList (letters : List ℕ) (at : ℕ) : Type 0 where
    pub no_variable : position (is_named letters) names.variables ≡ None
    pub first : position (bytes_eq letters) names.lets ≡ Some at

  pub record list (at : ℕ) (ls : List Lexeme) : Type 0 where
    pub letters : List ℕ
    pub named : IsList letters at
    pub spelled : one (Word letters) ls

  -- ---- forms

  -- `; EXPR`
  abbrev pub more_listed : Expr → Texts
  more_listed x = one (Sign semicolon) ▸ IsExpression names true x

  abbrev pub listed : List Expr → Texts
  listed [] = none
  listed (x ∷ xs) = IsExpression names true x ▸ each more_listed xs

  abbrev pub let_form : LetForm → Texts
  let_form (Gens xs) ls = (length xs ≤ most_listed) × (one (Word (codes "gens")) ▸ listed xs) ls
  let_form (Plus a b) ls = (one (Word (codes "plus")) ▸ list a ▸ list b) ls
  let_form (Product a b) ls = (one (Word (codes "product")) ▸ list a ▸ list b) ls
  let_form (Apply a x) ls = (one (Word (codes "apply")) ▸ list a ▸ one (Sign colon) ▸ IsExpression names true x) ls

  abbrev pub let_line : Definition → Texts
  let_line d = one (Word (codes "let")) ▸ declared d.text ▸ one (Sign equals) ▸ let_form d.form ▸ one LineEnd

-- ---- lines

-- the lines of these definitions, after those before them
abbrev pub let_lines_behind : List Naming → List Definition → List Definition → Texts
let_lines_behind variables before [] = nothing
let_lines_behind variables before (d ∷ ds) =
    let_line (with_definitions variables before) d ▸ let_lines_behind variables (before ++ d ∷ []) ds

abbrev pub let_lines : List Naming → List Definition → Texts
let_lines variables ds ls = (length ds ≤ most_lets) × let_lines_behind variables [] ds ls
