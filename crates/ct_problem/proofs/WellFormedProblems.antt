-- A problem for which a text stands is well formed. Main lemmas `reading_is`, and `draft_formed`, at the end, which `problem` cites.
use Rattle.ct_problem.proofs.Base.{◌≡◌, ℕ, ◌≤◌, List, [], length, map, Option, Some, None, Ok, ap, ◌∙◌, subst, codes, length-map, Command, AreTokens}
use Rattle.ct_problem.proofs.Base.{Token, scans_are_tokens, Naming, IsAlgebra, Gens, Listed, Named, Range, Draft, IsCursor, IsFormed}
use Rattle.ct_problem.proofs.Base.{reading_of_draft, Says, Input, Outcome, ◌>>=◌, and_then, pure, Definition, Lexeme, lexemes, Names, Reading, head}
use Rattle.ct_problem.proofs.Base.{body, last_line, problem, problem_of, Each, AreGenerators, AreForms, IsGens, AreDens, IsRange}
use Rattle.ct_problem.specs.GrammarProblem as grammar
use Rattle.ct_problem.proofs.AlgebraNames.{names_are}
use Rattle.ct_problem.proofs.Definitions.{length-definitions_of, forms_of}
use Rattle.ct_problem.proofs.NewNames.{IsSpelled, words_are, words_before, words_behind}
use Rattle.ct_problem.proofs.SpelledTexts.{problem_is, problem_spelled}
use Rattle.ct_problem.proofs.WellFormedLines.{dens_are, list_within, lets_are, operators_of}

generators_are : (names : Names) → length names.variables ≤ 6 → (g : Gens) (ls : List Lexeme) → grammar.generators names g ls →
    IsGens names.variables (length names.lets) g
generators_are names few (Listed xs) ls h = operators_of names few (codes "gen") xs ls h
generators_are names few (Named at) ls h = list_within names at h.first.back h.first.second

range_is : (key : List ℕ) (limit : ℕ) (r : Option Range) (ls : List Lexeme) → grammar.range_line key limit r ls → IsRange limit r
range_is key limit None ls h = tt
range_is key limit (Some r) ls h = let s = h.first.second in (s.rising, s.spelled.second.0)

-- what is known of a problem
pub record IsReading (p : Reading) : Type 0 where
  pub names : IsAlgebra p.variables
  pub few_lets : length p.definitions ≤ 8
  pub forms : AreForms p.variables 0 (map (λ d. d.form) p.definitions)
  pub gens : IsGens p.variables (length p.definitions) p.generators
  pub dens : AreDens p.variables p.dens
  pub targets : AreGenerators p.variables p.targets
  pub orders : IsRange 8 p.orders
  pub degrees : IsRange 12 p.degrees

says_is : (p : Reading) (ls : List Lexeme) → Says p ls → Each IsSpelled ls → IsReading p
says_is p ls s words =
    let names = grammar.names_of p in
    let few = s.names.few in
    let degrees = s.spelled.first in
    let orders = degrees.first in
    let targets = orders.first in
    let dens = targets.first in
    let gens = dens.first in
    let lets = gens.first in
    let first = lets.first in
    let spelled = words_behind first
    (words_before lets (words_before gens
    (words_before dens (words_before targets (words_before orders (words_before degrees (words_before s.spelled words))))))) in
    record {
      names = names_are p.variables first.back s.names first.second spelled;
      few_lets = lets.second.0;
      forms = lets_are p.variables few [] p.definitions lets.back lets.second.1;
      gens = subst (λ (n : ℕ). IsGens p.variables n p.generators) (length-map p.definitions (λ d. d.text))
          (generators_are names few p.generators gens.back gens.second);
      dens = dens_are names few p.dens dens.back dens.second;
      targets = operators_of names few (codes "target") p.targets targets.back targets.second;
      orders = range_is (codes "order") 8 p.orders orders.back orders.second;
      degrees = range_is (codes "degree") 12 p.degrees degrees.back degrees.second;
    }

pub reading_is : (command : Command) (bytes : List ℕ) (r : Reading × ℕ) → problem_of command bytes ≡ Ok r → IsReading r.0
reading_is command bytes r e =
    let s = problem_spelled command bytes r e in
    let tokens = subst (λ (ts : List Token). AreTokens bytes 0 ts) s.tokens (scans_are_tokens bytes 0) in
    says_is r.0 (lexemes bytes s.lines) s.says (words_are bytes 0 s.lines _ tokens)

-- ---- what the code has read

pub draft_formed :
    (command : Command) (i j k l : Input) (names : List Naming) (definitions : List Definition) (d : Draft) (end : ℕ) →
    IsCursor i.text i.left →
    head i ≡ Ok ((names, definitions), j) →
    body names definitions j ≡ Ok (reading_of_draft d, k) →
    last_line command (reading_of_draft d) k ≡ Ok (end, l) →
    length d.names.lets ≡ length d.lets →
    IsFormed d
unfolding reading_of_draft problem
draft_formed command i j k l names definitions d end at read_head read_body read_end each =
    let read : problem command i ≡ Ok ((reading_of_draft d, end), l) =
    ap (λ (o : Outcome (List Naming × List Definition)). and_then o (λ h. body h.0 h.1 >>= (λ p. last_line command p >>= (λ to. pure (p, to)))))
    read_head
    ∙ ap (λ (o : Outcome Reading). and_then o (λ p. last_line command p >>= (λ to. pure (p, to)))) read_body
    ∙ ap (λ (o : Outcome ℕ). and_then o (λ to. pure (reading_of_draft d, to))) read_end in
    let p = problem_is command i l (reading_of_draft d, end) read in
    let tokens = subst (λ (ts : List Token). IsCursor i.text ts) p.parts at in
    let known = says_is (reading_of_draft d) (lexemes i.text p.lines) p.says (words_are i.text 0 p.lines _ tokens) in
    let count = length-definitions_of d.names.lets d.lets each in
    record {
      names = known.names;
      few_lets = subst (λ (n : ℕ). n ≤ 8) count known.few_lets;
      a_name_each = each;
      forms = subst (AreForms d.names.variables 0) (forms_of d.names.lets d.lets each) known.forms;
      generators = subst (λ (n : ℕ). IsGens d.names.variables n d.gens) count known.gens;
      denominators = known.dens;
      listed_targets = known.targets;
      order_range = known.orders;
      degree_range = known.degrees;
    }
