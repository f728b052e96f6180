-- The grammar of reports that found a telescoper, as a relation: which texts stand for which report.
--     mgfun report 1
--     found I order R degree T     each at most 65535
--     telescoper OP
--     numerator NAME: OP       with the next line, for each summed name in order
--     denominator NAME: POLY
--     scale POLY
--     part NAME: POLY          for each summed name in order
--     cofactor NUMBER: OP      for each generator, from 1
--     end
-- OP is an expression with operators and POLY one without. Numbers may have zeros in front.
--     ReportStandsFor variables count bytes from r     the bytes from this place on are the lines of this report, under these names
--                                                      and on so many generators
--     ReportStandsForNone variables count bytes from   they are those of no such report
use Rattle.std.specs.Prelude.{◌≡◌, ℕ, ◌+◌, Bool, true, false, List, [], ◌∷◌, length, drop, None, IsTrue, codes}
use Rattle.ct_token.specs.Lexical.{scan_of}
use Rattle.ct_ore.specs.Naming.{Naming}
use Rattle.ct_expr.specs.declared.expr.Expr.{Expr}
use Rattle.ct_problem.specs.declared.report.Quotient.{Quotient}
use Rattle.ct_problem.specs.declared.report.Report.{Report}
use Rattle.ct_problem.specs.Declarations.{declared}
use Rattle.ct_problem.specs.GrammarLets.{none}
use Rattle.ct_problem.specs.GrammarProblem.{header, value, keyed}
use Rattle.ct_problem.specs.Lexemes.{Word, Number, Sign, LineEnd, Texts, nothing, one, number, ◌▸◌, lexemes}
use Rattle.ct_problem.specs.Limits.{largest_index}
use Rattle.ct_problem.specs.Names.{Names, summed_texts}
use Rattle.ct_problem.specs.Plain.{is_plain}
use Rattle.ct_problem.specs.Signs.{colon}

-- ---- lines with an expression

module _ (names : Names) where
  -- the line of a name with this text
  abbrev pub part : List ℕ → Bool → List ℕ → Expr → Texts
  part key operators text x = one (Word key) ▸ one (Word text) ▸ one (Sign colon) ▸ value names operators x

  -- the two lines of a name's quotient
  abbrev pub quotient : List ℕ → Quotient → Texts
  quotient text q = part (codes "numerator") true text q.numerator ▸ part (codes "denominator") false text q.denominator

  -- the line of the generator with this number
  abbrev pub cofactor : ℕ → Expr → Texts
  cofactor place x = one (Word (codes "cofactor")) ▸ one (Number place) ▸ one (Sign colon) ▸ value names true x

  -- the lines of the generators from this number on
  abbrev pub cofactors : ℕ → List Expr → Texts
  cofactors place [] = nothing
  cofactors place (x ∷ xs) = cofactor place x ▸ cofactors (place + 1) xs

-- a line, or several, for each of these values with its text
abbrev pub each_with : {X : Type 0} → (List ℕ → X → Texts) → List (List ℕ) → List X → Texts
each_with line [] [] = nothing
each_with line (text ∷ texts) (x ∷ xs) = line text x ▸ each_with line texts xs
each_with line _ _ = none

-- ---- reports

-- a word, and a number after it
abbrev pub numbered : List ℕ → ℕ → Texts
numbered key n = one (Word key) ▸ number largest_index n

-- the second line of a report
abbrev pub found_line : ℕ → ℕ → ℕ → Texts
found_line index order degree = numbered (codes "found") index ▸ numbered (codes "order") order ▸ numbered (codes "degree") degree ▸ one LineEnd

-- the last line
abbrev pub last_line : Texts
last_line = one (Word (codes "end")) ▸ one LineEnd

-- the lines of a report under these names
abbrev pub report : List Naming → Report → Texts
report variables r =
    header (codes "report")
    ▸ found_line r.index r.order r.degree
    ▸ keyed (declared variables) (codes "telescoper") true r.telescoper
    ▸ each_with (quotient (declared variables)) (summed_texts variables) r.quotients
    ▸ keyed (declared variables) (codes "scale") false r.scale
    ▸ each_with (part (declared variables) (codes "part") false) (summed_texts variables) r.factors
    ▸ cofactors (declared variables) 1 r.cofactors
    ▸ last_line

-- the bytes from this place on may stand in a report of this form, and say this one
pub record ReportStandsFor (variables : List Naming) (count : ℕ) (bytes : List ℕ) (from : ℕ) (r : Report) : Type 0 where
  pub plain : IsTrue (is_plain (drop from bytes))
  pub lexical : (scan_of bytes from).bad ≡ None
  pub a_cofactor_each : length r.cofactors ≡ count
  pub lines : report variables r (lexemes bytes (scan_of bytes from).tokens)

abbrev pub ReportStandsForNone : List Naming → ℕ → List ℕ → ℕ → Type 0
ReportStandsForNone variables count bytes from = (r : Report) → ReportStandsFor variables count bytes from r → ⊥
