-- Lines are well formed: the expressions of `gen`, `target` and `den` lines are over the declared names (`operators_of`,
-- `dens_are`), and the lists that `let` lines name are of earlier lines (`lets_are`).
use Rattle.ct_problem.proofs.Base.{ℕ, ◌≤◌, true, false, List, length, refl, ◌≡◌, suc, ◌<◌, [], ◌∷◌, ◌++◌, map, subst, arith, length-append, zero}
use Rattle.ct_problem.proofs.Base.{Some, None, IsTrue, slice_get, length-map, position-Some, false≢true, Naming, Expr, LetForm, IsExpression, values}
use Rattle.ct_problem.proofs.Base.{Lexeme, each, Names, IsOperator, IsPolynomial, AreGenerators, Each, IsForm, AreForms, AreDensOf, AreDens, list}
use Rattle.ct_problem.proofs.Base.{listed, let_lines_behind, Definition, with_definitions, Dens, no_dens, with_den, is_summed_name}
use Rattle.ct_problem.specs.declared.problem.LetForm.TheVariants.{Gens, Plus, Product, Apply}
use Rattle.ct_problem.specs.GrammarLets.{let_form}
use Rattle.ct_problem.specs.GrammarProblem as grammar
use Rattle.ct_problem.proofs.EvaluableExpressions.{each_gives, expression_is}

module _ (names : Names) (few : length names.variables ≤ 6) where
  pub operator_of : (x : Expr) (ls : List Lexeme) → IsExpression names true x ls → IsOperator names.variables x
  operator_of x ls u = let h = expression_is names few true x ls u in record { evaluable = h.evaluable; over = h.over }

  pub polynomial_of : (x : Expr) (ls : List Lexeme) → IsExpression names false x ls → IsPolynomial names.variables x
  polynomial_of x ls u = let h = expression_is names few false x ls u in record { evaluable = h.evaluable; over = h.over; plain = h.plain refl }

  pub operators_of : (key : List ℕ) (xs : List Expr) (ls : List Lexeme) → values names key xs ls → AreGenerators names.variables xs
  operators_of key xs ls h = record { few = h.0; each = each_gives (λ x ms k. operator_of x k.second.front k.second.first) xs ls h.1 }

-- the number of a `let` line
pub list_within : (names : Names) (at : ℕ) (ls : List Lexeme) → list names at ls → at < length names.lets
list_within names at ls h = (position-Some _ _ _ [] h.named.first).0

module _ (names : Names) (few : length names.variables ≤ 6) where
  listed_are : (xs : List Expr) (ls : List Lexeme) → listed names xs ls → Each (IsOperator names.variables) xs
  listed_are [] ls h = absurd h
  listed_are (x ∷ xs) ls h =
      (operator_of names few x h.front h.first, each_gives (λ y ms k. operator_of names few y k.back k.second) xs h.back h.second)

  form_is : (f : LetForm) (ls : List Lexeme) → let_form names f ls → IsForm names.variables (length names.lets) f
  form_is (Gens xs) ls h = record { few = h.0; each = listed_are xs h.1.back h.1.second }
  form_is (Plus a b) ls h = (list_within names a h.first.back h.first.second, list_within names b h.back h.second)
  form_is (Product a b) ls h = (list_within names a h.first.back h.first.second, list_within names b h.back h.second)
  form_is (Apply a x) ls h = (list_within names a h.first.first.back h.first.first.second, operator_of names few x h.back h.second)

pub lets_are : (variables : List Naming) → length variables ≤ 6 → (before ds : List Definition) (ls : List Lexeme) →
    let_lines_behind variables before ds ls → AreForms variables (length before) (map (λ d. d.form) ds)
lets_are variables few before [] ls h = tt
lets_are variables few before (d ∷ ds) ls h =
    let line = form_is (with_definitions variables before) few d.form h.first.first.back h.first.first.second in
    let count : length (before ++ d ∷ []) ≡ suc (length before) = omega (arith, length-append before (d ∷ [])) in (
      subst (λ (n : ℕ). IsForm variables n d.form) (length-map before (λ d. d.text)) line,
      subst (λ (n : ℕ). AreForms variables n (map (λ d. d.form) ds)) count (lets_are variables few (before ++ d ∷ []) ds h.back h.second),
    )

module _ (all : List Naming) where
  none_are : (ns : List Naming) → AreDensOf all ns (no_dens ns)
  none_are [] = tt
  none_are (n ∷ ns) = none_are ns

  one_den_more : (ns : List Naming) (ds : Dens) (at : ℕ) (x : Expr) → AreDensOf all ns ds → IsTrue (is_summed_name (slice_get ns at)) →
      IsPolynomial all x → AreDensOf all ns (with_den at x ds)
  one_den_more [] [] zero x known summed h = absurd (false≢true summed)
  one_den_more [] [] (suc at) x known summed h = absurd (false≢true summed)
  one_den_more [] (d ∷ ds) at x known summed h = absurd known
  one_den_more (n ∷ ns) [] at x known summed h = absurd known
  one_den_more (n ∷ ns) (None ∷ ds) zero x known summed h = ((summed, h), known)
  one_den_more (n ∷ ns) (Some y ∷ ds) zero x known summed h = ((summed, h), known.1)
  one_den_more (n ∷ ns) (None ∷ ds) (suc at) x known summed h = one_den_more ns ds at x known summed h
  one_den_more (n ∷ ns) (Some y ∷ ds) (suc at) x known summed h = (known.0, one_den_more ns ds at x known.1 summed h)

module _ (names : Names) (few : length names.variables ≤ 6) where
  lines_are : (lines : List (ℕ × Expr)) (before after : Dens) (ls : List Lexeme) → grammar.Gives names before lines after →
      each (grammar.den_line names) lines ls → AreDens names.variables before → AreDens names.variables after
  lines_are [] before after ls gives h known = subst (λ (ds : Dens). AreDens names.variables ds) gives known
  lines_are (d ∷ lines) before after ls gives h known =
      let line = h.first in
      let summed = line.first.first.second.named.summed in
      let value = polynomial_of names few d.1 line.second.front line.second.first in
      lines_are lines (with_den d.0 d.1 before) after h.back gives.1 h.second
      (one_den_more names.variables names.variables before d.0 d.1 known summed value)

  pub dens_are : (dens : Dens) (ls : List Lexeme) → grammar.den_lines names dens ls → AreDens names.variables dens
  dens_are dens ls h = lines_are h.lines (no_dens names.variables) dens ls h.gives h.spelled (none_are names.variables names.variables)
