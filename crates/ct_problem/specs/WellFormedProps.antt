-- A well formed problem is so in one way, as its ghost field wants. Main lemma `IsWellFormed-prop`, at the end.
-- Each fact is made of tests, bounds and equations of numbers, lists and variants, and each of these holds in one way at most.
use Rattle.std.specs.Prelude.{ℕ, suc, List, [], ◌∷◌, Option, Some, None}
use Rattle.std.specs.Coded.{×_prop, Unit-prop, le_prop}
use Rattle.std.proofs.Props.{props}
use mathlib.Core.Bool.{Bool-set}
use mathlib.Core.HLevel.{⊥_prop}
use Rattle.ct_ore.specs.Naming.{Naming, IsWord, IsNaming, EachIsNaming, IsOtherText, TextsDiffer, IsAlgebra}
use Rattle.ct_expr.specs.declared.expr.Expr.{Expr}
use Rattle.ct_problem.specs.declared.problem.Gens.{Gens}
use Rattle.ct_problem.specs.declared.problem.Gens.TheVariants as gens
use Rattle.ct_problem.specs.declared.problem.LetForm.{LetForm}
use Rattle.ct_problem.specs.declared.problem.LetForm.TheVariants as form
use Rattle.ct_problem.specs.declared.problem.Range.{Range}
use Rattle.ct_problem.specs.DenLines.{Dens}
use Rattle.ct_problem.specs.WellFormed.{IsOperator, IsPolynomial, Each, AreGenerators, IsForm, AreForms, IsGens, AreDensOf, IsRange, IsWellFormed}

-- ---- names

IsWord-prop : (text : List ℕ) → IsProp (IsWord text)
IsWord-prop [] = ⊥_prop
IsWord-prop (b ∷ bs) = Bool-set _ _

IsNaming-prop : (n : Naming) → IsProp (IsNaming n)
IsNaming-prop n = hlevel (props, IsWord-prop)

EachIsNaming-prop : (ns : List Naming) → IsProp (EachIsNaming ns)
EachIsNaming-prop [] = Unit-prop
EachIsNaming-prop (n ∷ ns) = ×_prop (IsNaming-prop n) (EachIsNaming-prop ns)

IsOtherText-prop : (t : List ℕ) (ns : List Naming) → IsProp (IsOtherText t ns)
IsOtherText-prop t [] = Unit-prop
IsOtherText-prop t (n ∷ ns) = ×_prop (hlevel props) (IsOtherText-prop t ns)

TextsDiffer-prop : (ns : List Naming) → IsProp (TextsDiffer ns)
TextsDiffer-prop [] = Unit-prop
TextsDiffer-prop (n ∷ ns) = ×_prop (IsOtherText-prop n.text ns) (TextsDiffer-prop ns)

IsAlgebra-prop : (ns : List Naming) → IsProp (IsAlgebra ns)
IsAlgebra-prop ns = hlevel (props, EachIsNaming-prop, TextsDiffer-prop)

module _ (ns : List Naming) where
  -- ---- expressions

  IsOperator-prop : (x : Expr) → IsProp (IsOperator ns x)
  IsOperator-prop x = hlevel props

  IsPolynomial-prop : (x : Expr) → IsProp (IsPolynomial ns x)
  IsPolynomial-prop x = hlevel props

  AreOperators-prop : (xs : List Expr) → IsProp (Each (IsOperator ns) xs)
  AreOperators-prop [] = Unit-prop
  AreOperators-prop (x ∷ xs) = ×_prop (IsOperator-prop x) (AreOperators-prop xs)

  AreGenerators-prop : (xs : List Expr) → IsProp (AreGenerators ns xs)
  AreGenerators-prop xs = hlevel (props, AreOperators-prop)

  -- ---- lines

  IsForm-prop : (lines : ℕ) (f : LetForm) → IsProp (IsForm ns lines f)
  IsForm-prop lines (form.Gens xs) = AreGenerators-prop xs
  IsForm-prop lines (form.Plus a b) = ×_prop le_prop le_prop
  IsForm-prop lines (form.Product a b) = ×_prop le_prop le_prop
  IsForm-prop lines (form.Apply a x) = ×_prop le_prop (IsOperator-prop x)

  AreForms-prop : (lines : ℕ) (fs : List LetForm) → IsProp (AreForms ns lines fs)
  AreForms-prop lines [] = Unit-prop
  AreForms-prop lines (f ∷ fs) = ×_prop (IsForm-prop lines f) (AreForms-prop (suc lines) fs)

  IsGens-prop : (lines : ℕ) (g : Gens) → IsProp (IsGens ns lines g)
  IsGens-prop lines (gens.Listed xs) = AreGenerators-prop xs
  IsGens-prop lines (gens.Named at) = le_prop

  AreDensOf-prop : (more : List Naming) (ds : Dens) → IsProp (AreDensOf ns more ds)
  AreDensOf-prop [] [] = Unit-prop
  AreDensOf-prop [] (d ∷ ds) = ⊥_prop
  AreDensOf-prop (n ∷ more) [] = ⊥_prop
  AreDensOf-prop (n ∷ more) (None ∷ ds) = AreDensOf-prop more ds
  AreDensOf-prop (n ∷ more) (Some x ∷ ds) = ×_prop (×_prop (Bool-set _ _) (IsPolynomial-prop x)) (AreDensOf-prop more ds)

IsRange-prop : (limit : ℕ) (r : Option Range) → IsProp (IsRange limit r)
IsRange-prop limit None = Unit-prop
IsRange-prop limit (Some r) = ×_prop le_prop le_prop

-- ---- the whole

pub IsWellFormed-prop :
    {Text : Type 0} {algebra : List Naming} {lets : List LetForm} {let_names : List Text} {gens : Gens} {dens : Dens}
    {targets : List Expr} {orders degrees : Option Range} →
    IsProp (IsWellFormed algebra lets let_names gens dens targets orders degrees)
IsWellFormed-prop = hlevel (props, IsAlgebra-prop, AreForms-prop, IsGens-prop, AreDensOf-prop, AreGenerators-prop, IsRange-prop)
