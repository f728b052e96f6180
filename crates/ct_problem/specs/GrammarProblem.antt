-- The grammar of problems, as a relation: which texts stand for which problem.
--     mgfun problem 1
--     free NAME shift, free NAME diff, sum NAME, int NAME, param NAME     1 to 6 such lines, in any order
--     let NAME = ...           at most 8 times, as in `GrammarLets.antt`
--     gen OP                   at most 16 times
--     use NAME                 in place of `gen` lines, at most once
--     den NAME: POLY           at most once for each summed name, in any order
--     target OP                at most 16 times
--     order A..B               at most once, A and B at most 8
--     degree C..D              at most once, C and D at most 12
--     end
-- OP is an expression with operators and POLY one without. `sum` declares a shift and `int` a derivation, both summed. At most
-- four names have operators, and at most three are summed. The second number of a range isn't below the first. Numbers may
-- have zeros in front. The last line may lack its end. Behind it comes a report for `check`, and else nothing.
--     Says p ls                      these lexemes are the lines of this problem
--     StandsFor command bytes p at   the bytes begin with the lines of a problem that has what the command needs, up to this place
--     StandsForNone command bytes    they are those of no problem
use Rattle.std.specs.Prelude.{◌≡◌, ◌<◌, ◌≤◌, ℕ, Bool, true, false, List, [], ◌∷◌, ◌++◌, length, count_by, position, slice_get, Option, Some, None, IsTrue, codes}
use Rattle.ct_io.specs.declared.command.Command.{Command}
use Rattle.ct_io.specs.declared.command.Command.TheVariants.{Check}
use Rattle.ct_token.specs.Lexical.{scan_of}
use Rattle.ct_token.specs.declared.token.Token.{Token}
use Rattle.ct_algebra.specs.Actions.{Action, Shift, Derive, Still}
use Rattle.ct_ore.specs.Naming.{Naming, has_operator}
use Rattle.ct_ore.specs.declared.algebra.Role.{Role}
use Rattle.ct_ore.specs.declared.algebra.Role.TheVariants.{Free, Summed, Param}
use Rattle.ct_expr.specs.declared.expr.Expr.{Expr}
use Rattle.ct_problem.specs.declared.problem.Gens.{Gens}
use Rattle.ct_problem.specs.declared.problem.Gens.TheVariants.{Listed, Named}
use Rattle.ct_problem.specs.declared.problem.Range.{Range}
use Rattle.ct_problem.specs.Declarations.{declared as no_lets}
use Rattle.ct_problem.specs.DenLines.{Dens, no_dens, with_den, is_given, is_summed_name}
use Rattle.ct_problem.specs.Grammar.{IsExpression}
use Rattle.ct_problem.specs.GrammarLets.{none, declared, list, let_lines}
use Rattle.ct_problem.specs.LetLines.{with_definitions}
use Rattle.ct_problem.specs.Lexemes.{Lexeme, Word, Number, Sign, Dots, LineEnd, Texts, nothing, one, number, ◌▸◌, each, lexemes}
use Rattle.ct_problem.specs.Limits.{most_bytes, most_names, most_listed, highest_order, highest_degree}
use Rattle.ct_problem.specs.Names.{Names, is_named, summed_texts}
use Rattle.ct_problem.specs.ReadProblem.{Reading, has_needs}
use Rattle.ct_problem.specs.Signs.{colon}

-- the first line of a problem or a report
abbrev pub header : List ℕ → Texts
header kind = one (Word (codes "mgfun")) ▸ one (Word kind) ▸ one (Number 1) ▸ one LineEnd

-- ---- names

-- the line of a name with this action, role and text, if there is one
abbrev pub name_line : List Naming → Action → Role → List ℕ → Texts
name_line before Shift Free text = one (Word (codes "free")) ▸ declared (no_lets before) text ▸ one (Word (codes "shift")) ▸ one LineEnd
name_line before Derive Free text = one (Word (codes "free")) ▸ declared (no_lets before) text ▸ one (Word (codes "diff")) ▸ one LineEnd
name_line before Shift Summed text = one (Word (codes "sum")) ▸ declared (no_lets before) text ▸ one LineEnd
name_line before Derive Summed text = one (Word (codes "int")) ▸ declared (no_lets before) text ▸ one LineEnd
name_line before Still Param text = one (Word (codes "param")) ▸ declared (no_lets before) text ▸ one LineEnd
name_line before _ _ text = none

-- the lines of these names, after those before them
abbrev pub name_lines : List Naming → List Naming → Texts
name_lines before [] = nothing
name_lines before (n ∷ ns) = name_line before n.action n.role n.text ▸ name_lines (before ++ n ∷ []) ns

-- as many names as there may be
pub record AreFew (variables : List Naming) : Type 0 where
  pub some : 0 < length variables
  pub few : length variables ≤ most_names
  pub few_operators : count_by has_operator variables ≤ 4
  pub few_summed : length (summed_texts variables) ≤ 3

-- ---- lines with an expression

module _ (names : Names) where
  -- an expression and the end of its line
  abbrev pub value : Bool → Expr → Texts
  value operators x = IsExpression names operators x ▸ one LineEnd

  -- a line that begins with this word
  abbrev pub keyed : List ℕ → Bool → Expr → Texts
  keyed key operators x = one (Word key) ▸ value operators x

  abbrev pub values : List ℕ → List Expr → Texts
  values key xs ls = (length xs ≤ most_listed) × each (keyed key true) xs ls

  abbrev pub generators : Gens → Texts
  generators (Listed xs) = values (codes "gen") xs
  generators (Named at) = one (Word (codes "use")) ▸ list names at ▸ one LineEnd

  -- ---- denominators

  -- the first declared name of these letters has this number, and is summed
  pub record IsSummed (letters : List ℕ) (at : ℕ) : Type 0 where
    pub first : position (is_named letters) names.variables ≡ Some at
    pub summed : IsTrue (is_summed_name (slice_get names.variables at))

  pub record summed (at : ℕ) (ls : List Lexeme) : Type 0 where
    pub letters : List ℕ
    pub named : IsSummed letters at
    pub spelled : one (Word letters) ls

  -- the line of the name with this number
  abbrev pub den_line : ℕ × Expr → Texts
  den_line d = one (Word (codes "den")) ▸ summed d.0 ▸ one (Sign colon) ▸ value false d.1

  -- these stand for names for which none stood before, and make of those before what stands after them
  abbrev pub Gives : Dens → List (ℕ × Expr) → Dens → Type 0
  Gives before [] after = before ≡ after
  Gives before (d ∷ ds) after = (is_given d.0 before ≡ false) × Gives (with_den d.0 d.1 before) ds after

  pub record den_lines (dens : Dens) (ls : List Lexeme) : Type 0 where
    pub lines : List (ℕ × Expr)
    pub gives : Gives (no_dens names.variables) lines dens
    pub spelled : each den_line lines ls

-- ---- ranges

pub record range (limit : ℕ) (r : Range) (ls : List Lexeme) : Type 0 where
  pub rising : r.low ≤ r.high
  pub spelled : (number limit r.low ▸ one Dots ▸ number limit r.high) ls

abbrev pub range_line : List ℕ → ℕ → Option Range → Texts
range_line key limit None = nothing
range_line key limit (Some r) = one (Word key) ▸ range limit r ▸ one LineEnd

-- ---- problems

abbrev pub names_of : Reading → Names
names_of p = with_definitions p.variables p.definitions

-- the lines before the last one
abbrev pub lines : Reading → Texts
lines p =
    header (codes "problem")
    ▸ name_lines [] p.variables
    ▸ let_lines p.variables p.definitions
    ▸ generators (names_of p) p.generators
    ▸ den_lines (names_of p) p.dens
    ▸ values (names_of p) (codes "target") p.targets
    ▸ range_line (codes "order") highest_order p.orders
    ▸ range_line (codes "degree") highest_degree p.degrees

pub record Says (p : Reading) (ls : List Lexeme) : Type 0 where
  pub names : AreFew p.variables
  pub spelled : (lines p ▸ one (Word (codes "end"))) ls

-- the last line ends in these tokens, or with the text
abbrev pub IsEnd : List ℕ → List Token → List Token → Option ℕ → ℕ → Type 0
IsEnd bytes [] rest bad at = (rest ≡ []) × (bad ≡ None) × (at ≡ length bytes)
IsEnd bytes (t ∷ ts) rest bad at = (lexemes bytes (t ∷ ts) ≡ LineEnd ∷ []) × (at ≡ t.to)

-- for `check`, whatever comes; else nothing
abbrev pub MayFollow : Command → List Token → Option ℕ → Type 0
MayFollow Check rest bad = Unit {0}
MayFollow _ rest bad = (rest ≡ []) × (bad ≡ None)

pub record StandsFor (command : Command) (bytes : List ℕ) (p : Reading) (at : ℕ) : Type 0 where
  pub short : length bytes ≤ most_bytes
  pub needs : IsTrue (has_needs command p)
  pub lines : List Token
  pub end : List Token
  pub rest : List Token
  pub tokens : (scan_of bytes 0).tokens ≡ lines ++ (end ++ rest)
  pub says : Says p (lexemes bytes lines)
  pub ends : IsEnd bytes end rest (scan_of bytes 0).bad at
  pub behind : MayFollow command rest (scan_of bytes 0).bad

-- the bytes say no problem
abbrev pub StandsForNone : Command → List ℕ → Type 0
StandsForNone command bytes = (p : Reading) (at : ℕ) → StandsFor command bytes p at → ⊥
