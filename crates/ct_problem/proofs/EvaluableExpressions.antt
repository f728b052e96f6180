-- The expressions of the grammar are over the declared names and can be evaluated, and those of polynomials have no symbol.
-- Main lemma `expression_is`, rule by rule.
--     each_gives     what follows for each of some values from the lexemes that stand for it
use Rattle.ct_problem.proofs.Base.{◌≡◌, ℕ, zero, suc, ◌<◌, ◌≤◌, Bool, true, false, IsTrue, List, [], ◌∷◌, length, map, Option, Some, None, refl, sym}
use Rattle.ct_problem.proofs.Base.{subst, arith, false≢true, position-Some, Action, Shift, Derive, Still, by_action, Naming, Expr, IsAtom, IsFactor}
use Rattle.ct_problem.proofs.Base.{IsTerm, IsSum, IsNested, IsExpression, IsActing, Term, summand, sum_of, Lexeme, Texts, each, Names, is_named}
use Rattle.ct_problem.proofs.Base.{acts_as, same_action, is_listed, has_symbol, Each}
use Rattle.std.proofs.Common.{position}
use Rattle.std.specs.List.{slice_get}
use Rattle.ct_ore.specs.declared.algebra.Role.TheVariants.{Free}
use Rattle.ct_expr.specs.declared.expr.Expr.TheVariants as e
use Rattle.ct_problem.proofs.ExpressionKinds.{IsFor, IsTermFor, name_is, symbol_is, whole_is, ratio_is, summand_is, sum_is, product_of-is, power_is}

pub each_gives : {X : Type 0} {a : X → Texts} {P : X → Type 0} → ((x : X) (ls : List Lexeme) → a x ls → P x) → (xs : List X) (ls : List Lexeme) →
    each a xs ls → Each P xs
each_gives f [] ls h = tt
each_gives f (x ∷ xs) ls h = (f x h.front h.first, each_gives f xs h.back h.second)

-- ---- names that have a place, and a symbol

listed_within : (ns : List Naming) (at : ℕ) → at < length ns → IsTrue (is_listed (slice_get ns at))
listed_within [] at within = absurd (omega (arith, within))
listed_within (n ∷ ns) zero within = refl
listed_within (n ∷ ns) (suc at) within = listed_within ns at (omega (arith, within))

-- an action that a symbol stands for
abbrev Acts : Action → Type 0
Acts action = IsTrue (by_action action true true false)

symbol_of : (action : Action) (o : Option Naming) → Acts action → IsTrue (acts_as action o) → IsTrue (has_symbol o)
symbol_of action None acts is = absurd (false≢true is)
symbol_of action (Some n) acts is = by action n.action acts is
  where
    by : (action own : Action) → Acts action → same_action own action ≡ true → Acts own
    by action Shift acts is = refl
    by action Derive acts is = refl
    by Shift Still acts is = absurd (false≢true is)
    by Derive Still acts is = absurd (false≢true is)
    by Still Still acts is = acts

-- ---- the rules

module _ (names : Names) (few : length names.variables ≤ 6) where
  place_within : (letters : List ℕ) (at : ℕ) → position (is_named letters) names.variables ≡ Some at → at < length names.variables
  place_within letters at first = (position-Some (is_named letters) names.variables at (record { text = []; action = Still; role = Free }) first).0

  module _ (operators : Bool) where
    abbrev IsThis : Expr → Type 0
    IsThis x = IsFor names.variables operators x

    abbrev IsThisTerm : Term → Type 0
    IsThisTerm t = IsTermFor names.variables operators (summand t.0 t.1)

    acting_is : (action : Action) (letters : List ℕ) (at : ℕ) → Acts action → IsTrue operators → IsActing names action letters at →
        IsThis (e.Symbol at)
    acting_is action letters at acts allowed named =
        let within = place_within letters at named.first in
        subst (λ (b : Bool). IsFor names.variables b (e.Symbol at)) (sym allowed)
        (symbol_is names.variables at (omega (arith, within, few)) (symbol_of action (slice_get names.variables at) acts named.acts))

    module _ (Inner : Expr → Texts) (inner_is : (x : Expr) (ls : List Lexeme) → Inner x ls → IsThis x) where
      atom_is : (x : Expr) (ls : List Lexeme) → IsAtom names operators Inner x ls → IsThis x
      atom_is x ls (IsAtom.whole n value u) = subst IsThis (sym value) (whole_is names.variables operators n u.0)
      atom_is x ls (IsAtom.ratio n d value some u) = subst IsThis (sym value) (ratio_is names.variables operators n d u.first.first.0 u.second.0 some)
      atom_is x ls (IsAtom.variable letters at named value u) =
          let within = place_within letters at named.first in
          subst IsThis (sym value) (name_is names.variables operators at (omega (arith, within, few)) (listed_within names.variables at within))
      atom_is x ls (IsAtom.shift letters at allowed named value u) = subst IsThis (sym value) (acting_is Shift letters at refl allowed named)
      atom_is x ls (IsAtom.derivation letters at allowed named value u) = subst IsThis (sym value) (acting_is Derive letters at refl allowed named)
      atom_is x ls (IsAtom.nested u) = inner_is x ls u

      factor_is : (x : Expr) (ls : List Lexeme) → IsFactor names operators Inner x ls → IsThis x
      factor_is x ls (IsFactor.plain u) = atom_is x ls u
      factor_is x ls (IsFactor.power base n value u) =
          subst IsThis (sym value) (power_is names.variables operators base n (atom_is base u.first.front u.first.first))

      term_is : (x : Expr) (ls : List Lexeme) → IsTerm names operators Inner x ls → IsThis x
      term_is x ls t =
          let s = t.spelled in
          subst IsThis (sym t.value)
          (product_of-is names.variables operators t.first t.more (
            factor_is t.first s.front s.first,
            each_gives (λ y ms h. factor_is y h.back h.second) t.more s.back s.second,
          ))

      mapped : (more : List Term) → Each IsThisTerm more → Each (IsTermFor names.variables operators) (map (λ t. summand t.0 t.1) more)
      mapped [] each = tt
      mapped (t ∷ more) each = (each.0, mapped more each.1)

      sum_of-is : (negative : Bool) (first : Expr) (more : List Term) → IsThis first → Each IsThisTerm more → IsThis (sum_of negative first more)
      sum_of-is false first [] h each = h
      sum_of-is true first [] h each =
          sum_is names.variables operators (summand true first) [] (summand_is names.variables operators true first h, tt)
      sum_of-is false first (t ∷ more) h each =
          sum_is names.variables operators (summand false first) _ (summand_is names.variables operators false first h, mapped (t ∷ more) each)
      sum_of-is true first (t ∷ more) h each =
          sum_is names.variables operators (summand true first) _ (summand_is names.variables operators true first h, mapped (t ∷ more) each)

      pub expression_of : (x : Expr) (ls : List Lexeme) → IsSum names operators Inner x ls → IsThis x
      expression_of x ls s =
          let u = s.spelled in
          let more = each_gives (λ (t : Term) ms h. summand_is names.variables operators t.0 t.1 (term_is t.1 h.back h.second)) s.more u.back u.second
          in
          subst IsThis (sym s.value) (sum_of-is s.negative s.first s.more (term_is s.first u.first.back u.first.second) more)

  nested_is : (operators : Bool) (depth : ℕ) (x : Expr) (ls : List Lexeme) → IsNested names operators depth x ls → IsFor names.variables operators x
  unfolding IsNested
  nested_is operators zero x ls h = absurd h
  nested_is operators (suc depth) x ls h =
      expression_of operators (IsNested names operators depth) (nested_is operators depth) x h.first.back h.first.second

  pub expression_is : (operators : Bool) (x : Expr) (ls : List Lexeme) → IsExpression names operators x ls → IsFor names.variables operators x
  expression_is operators x ls h = expression_of operators (IsNested names operators 64) (nested_is operators 64) x ls h
