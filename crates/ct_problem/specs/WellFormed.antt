-- What a problem and a report that was read keep to, and so what whoever uses them may count on.
--     IsOperator ns x, IsPolynomial ns x     an expression over these names whose value can be asked for; one without symbols
--     IsWellFormed ..                  of the fields of a problem: the names are an algebra, the expressions are over them and can
--                                      be evaluated, the lists that a `let` line names are of earlier lines, an entry of `dens`
--                                      stands there for each name, the ranges are within the limits, and there are no more lines
--                                      of a kind than may be
--     IsReportOn ns generators r       its expressions are over the names and can be evaluated, and a quotient, a factor or a
--                                      cofactor stands there for each summed name or generator
-- `IsWellFormed` is the ghost field of `Problem`, so nothing here mentions that type.
use Rattle.std.specs.Prelude.{◌≡◌, ◌<◌, ◌≤◌, ℕ, suc, List, [], ◌∷◌, length, Option, Some, None, IsTrue}
use Rattle.ct_ore.specs.Naming.{Naming, IsAlgebra, summed_of}
use Rattle.ct_expr.specs.declared.expr.Expr.{Expr}
use Rattle.ct_problem.specs.declared.problem.Gens.{Gens}
use Rattle.ct_problem.specs.declared.problem.Gens.TheVariants as gens
use Rattle.ct_problem.specs.declared.problem.LetForm.{LetForm}
use Rattle.ct_problem.specs.declared.problem.LetForm.TheVariants as form
use Rattle.ct_problem.specs.declared.problem.Range.{Range}
use Rattle.ct_problem.specs.declared.report.Quotient.{Quotient}
use Rattle.ct_problem.specs.declared.report.Report.{Report}
use Rattle.ct_problem.specs.DenLines.{Dens, is_summed_name}
use Rattle.ct_problem.specs.Limits.{most_lets, most_listed, highest_order, highest_degree}
use Rattle.ct_problem.specs.OverNames.{is_over}
use Rattle.ct_expr.specs.Value.{is_evaluable, has_no_symbol}

abbrev pub Each : {X : Type 0} → (X → Type 0) → List X → Type 0
Each P [] = Unit {0}
Each P (x ∷ xs) = P x × Each P xs

abbrev pub IsRange : ℕ → Option Range → Type 0
IsRange limit None = Unit {0}
IsRange limit (Some r) = (r.low ≤ r.high) × (r.high ≤ limit)

module _ (ns : List Naming) where
  pub record IsOperator (x : Expr) : Type 0 where
    pub evaluable : IsTrue (is_evaluable x)
    pub over : IsTrue (is_over ns x)

  pub record IsPolynomial (x : Expr) : Type 0 where
    pub evaluable : IsTrue (is_evaluable x)
    pub over : IsTrue (is_over ns x)
    pub plain : IsTrue (has_no_symbol x)

  -- ---- problems

  pub record AreGenerators (xs : List Expr) : Type 0 where
    pub few : length xs ≤ most_listed
    pub each : Each IsOperator xs

  -- behind so many `let` lines
  abbrev pub IsForm : ℕ → LetForm → Type 0
  IsForm lines (form.Gens xs) = AreGenerators xs
  IsForm lines (form.Plus a b) = (a < lines) × (b < lines)
  IsForm lines (form.Product a b) = (a < lines) × (b < lines)
  IsForm lines (form.Apply a x) = (a < lines) × IsOperator x

  abbrev pub AreForms : ℕ → List LetForm → Type 0
  AreForms lines [] = Unit {0}
  AreForms lines (f ∷ fs) = IsForm lines f × AreForms (suc lines) fs

  abbrev pub IsGens : ℕ → Gens → Type 0
  IsGens lines (gens.Listed xs) = AreGenerators xs
  IsGens lines (gens.Named at) = at < lines

  -- an entry for each of some names; one is there only for a summed name
  abbrev pub AreDensOf : List Naming → Dens → Type 0
  AreDensOf [] [] = Unit {0}
  AreDensOf (n ∷ more) (None ∷ ds) = AreDensOf more ds
  AreDensOf (n ∷ more) (Some x ∷ ds) = (IsTrue (is_summed_name (Some n)) × IsPolynomial x) × AreDensOf more ds
  AreDensOf _ _ = ⊥

  abbrev pub AreDens : Dens → Type 0
  AreDens = AreDensOf ns

  -- ---- reports

  pub record IsQuotient (q : Quotient) : Type 0 where
    pub numerator : IsOperator q.numerator
    pub denominator : IsPolynomial q.denominator

  pub record IsReportOn (generators : ℕ) (report : Report) : Type 0 where
    pub telescoper : IsOperator report.telescoper
    pub quotients : Each IsQuotient report.quotients
    pub scale : IsPolynomial report.scale
    pub factors : Each IsPolynomial report.factors
    pub cofactors : Each IsOperator report.cofactors
    pub each_quotient : length report.quotients ≡ length (summed_of ns)
    pub each_factor : length report.factors ≡ length (summed_of ns)
    pub each_cofactor : length report.cofactors ≡ generators

-- what the fields of a problem keep to
pub record IsWellFormed
    {Text : Type 0} (algebra : List Naming) (lets : List LetForm) (let_names : List Text) (gens : Gens) (dens : Dens)
    (targets : List Expr) (orders degrees : Option Range) : Type 0 where
  pub names : IsAlgebra algebra
  pub few_lets : length lets ≤ most_lets
  pub a_name_each : length let_names ≡ length lets
  pub forms : AreForms algebra 0 lets
  pub generators : IsGens algebra (length lets) gens
  pub denominators : AreDens algebra dens
  pub listed_targets : AreGenerators algebra targets
  pub order_range : IsRange highest_order orders
  pub degree_range : IsRange highest_degree degrees
