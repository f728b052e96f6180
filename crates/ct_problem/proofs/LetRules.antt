-- The rules of `let` lines. Main lemma `let_lines_rule`.
use Rattle.ct_problem.proofs.Base.{◌≡◌, ℕ, Bool, true, false, not, nat_lt, le-ltb, ltb-false, List, [], ◌∷◌, ◌++◌, ◌⊎◌, inl, inr, length, Option}
use Rattle.ct_problem.proofs.Base.{Some, Ok, refl, ap, ◌∙◌, subst, arith, codes, bytes_eq, Naming, Expr, TooMany, NameTooLong, DuplicateName, LetForm}
use Rattle.ct_problem.proofs.Base.{LetWord, Plus, Product, Apply, Known, Variable, Let, Unknown, Input, Outcome, Parser, ◌>>=◌, ◌>>◌, pure, skip}
use Rattle.ct_problem.proofs.Base.{next, Definition, with_definitions, begins_expression, list_by, list_word, list_name, one_too_many, listed_from}
use Rattle.ct_problem.proofs.Base.{two_lists, applied, form_by, let_word, form_of_word, let_form, definition, let_lines, let_lines_from, spelled_word}
use Rattle.ct_problem.proofs.Base.{new_name, Lexeme, Word, Sign, LineEnd, Texts, one, ◌▸◌, IsDeclarable, IsExpression, IsList, Names, is_new, known}
use Rattle.ct_problem.proofs.Base.{fault_if}
use Rattle.ct_problem.proofs.Frame.{Ok-same, joined_to_left, joined_to_right, on_first, replaced, shows_sign, test_failed, anywhere, IsFresh}
use Rattle.ct_problem.specs.declared.problem.LetForm.TheVariants as form
use Rattle.ct_problem.specs.declared.reading.let_lines.LetWord.TheVariants.{Gens}
use Rattle.ct_problem.specs.Input as input
use Rattle.ct_problem.specs.GrammarLets as lets
use Rattle.ct_problem.proofs.KnownNames.{known-let, let-known}
use Rattle.ct_problem.proofs.LexemeStarts.{Ends, ends_sum}
use Rattle.ct_problem.proofs.LineStarts.{AfterLines, Leads, leads_nothing, leads_key}
use Rattle.ct_problem.proofs.LineStarts as starts
use Rattle.ct_problem.proofs.NewNames.{not_false}
use Rattle.ct_problem.proofs.Rules.{any, Rule, like, before, never, reads, reads_before, reads_last, passes, ends_with, Split, Image, makes, binds}
use Rattle.ct_problem.proofs.RuleChoices.{sign_rule, meant_rule, word_seen, chosen, Chosen, choice_rule}
use Rattle.ct_problem.proofs.RuleLists.{Separated, separated_rule, whole_list}
use Rattle.ct_problem.proofs.ExpressionRules.{expression_rule}
use Rattle.ct_problem.proofs.LineRules.{key_lines_rule}

-- the word that begins a form
abbrev key_of : LetWord → List ℕ
key_of Gens = codes "gens"
key_of Plus = codes "plus"
key_of Product = codes "product"
key_of Apply = codes "apply"

own : (v : LetWord) → chosen (Gens ∷ Plus ∷ Product ∷ Apply ∷ []) (λ u. bytes_eq (key_of v) (key_of u)) ≡ Some v
own Gens = refl
own Plus = refl
own Product = refl
own Apply = refl

module _ (bad : Option ℕ) (names : Names) where
  -- ---- names

  -- what is done with the letters of a name that is declared
  abbrev unless_old : List ℕ → Parser (List ℕ)
  unless_old text = fault_if (not (is_new text names)) DuplicateName >> (skip >> pure text)

  abbrev unless_long : List ℕ → Parser (List ℕ)
  unless_long text = fault_if (nat_lt 32 (length text)) NameTooLong >> unless_old text

  abbrev New : List ℕ → List ℕ → Type 0
  New letters text = (letters ≡ text) × IsDeclarable names letters

  pub new_name_rule : Rule bad any (new_name names) (lets.declared names) anywhere
  unfolding new_name
  new_name_rule =
      like (λ text ls h. subst (λ (w : List ℕ). lets.declared names w ls) h.means.0 (h.means.1, h.spelled))
      (λ text ls h. record { letters = text; means = (refl, h.0); spelled = h.1 }) (λ rest a. a)
      (meant_rule New (λ o. spelled_word o >>= unless_long) unless_long (λ i. refl) refl (λ s. refl) refl refl refl is does)
    where
      is : (letters : List ℕ) (i j : Input) (text : List ℕ) → unless_long letters i ≡ Ok (text, j) → New letters text × (next i ≡ j)
      is letters i j text e =
          let long = test_failed (nat_lt 32 (length letters)) NameTooLong (unless_old letters) i j text e in
          let old = test_failed (not (is_new letters names)) DuplicateName (skip >> pure letters) i j text long.1 in
          let both = Ok-same old.1 in
          ((both.0, record { short = ltb-false 32 (length letters) long.0; other = not_false (is_new letters names) old.0 }), both.1)

      does : (letters : List ℕ) (i : Input) (text : List ℕ) → New letters text → unless_long letters i ≡ Ok (text, next i)
      does letters i text n =
          ap (λ (b : Bool). (fault_if b NameTooLong >> unless_old letters) i) (le-ltb 32 (length letters) n.1.short)
          ∙ ap (λ (b : Bool). (fault_if (not b) DuplicateName >> (skip >> pure letters)) i) n.1.other
          ∙ ap (λ (w : List ℕ). let o : Outcome (List ℕ) = Ok (w, next i) in o) n.0

  pub list_rule : Rule bad any (list_name names) (lets.list names) anywhere
  unfolding list_name
  list_rule =
      like (λ at ls h. record { letters = h.letters; named = h.means; spelled = h.spelled })
      (λ at ls h. record { letters = h.letters; means = h.named; spelled = h.spelled }) (λ rest a. a)
      (meant_rule (IsList names) (list_word names) (λ letters. list_by names (known letters names)) (λ i. refl) refl (λ s. refl) refl refl refl
      (λ letters i j at e. is letters i j at (known letters names) refl e)
      (λ letters i at l. ap (λ (k : Known). list_by names k i) (known-let letters at names l)))
    where
      is : (letters : List ℕ) (i j : Input) (at : ℕ) (k : Known) → known letters names ≡ k → list_by names k i ≡ Ok (at, j) →
          IsList names letters at × (next i ≡ j)
      is letters i j at (Let n) e h =
          let both = Ok-same h in (subst (IsList names letters) both.0 (let-known letters n names e), both.1)
      is letters i j at (Variable n) e h = cc
      is letters i j at Unknown e h = cc

  -- ---- forms

  abbrev Listed : List Expr → Texts
  Listed = Separated (λ xs. xs) (IsExpression names true) 59 16 []

  listed_rule : Rule bad any (listed_from names 16 []) Listed Ends
  unfolding listed_from one_too_many
  listed_rule =
      separated_rule (λ xs. xs) 59 (expression_rule bad names true) (listed_from names)
      (λ found i j xs e. fails i j xs (begins_expression (input.symbol i)) e) (λ n found. refl) (λ rest a. ap (shows_sign 59) a.1) ends_sum
      (λ ls. record { no_divisor = refl; no_power = refl; no_factor = refl; no_plus = refl; no_minus = refl }) 16 []
    where
      fails : (i j : Input) (xs : List Expr) (b : Bool) → (fault_if b TooMany >> input.syntax) i ≡ Ok (xs, j) → ⊥
      fails i j xs true e = cc
      fails i j xs false e = cc

  abbrev Lists : ℕ × ℕ → Texts
  Lists p = lets.list names p.0 ▸ lets.list names p.1

  lists_rule : Rule bad any (two_lists names) Lists Ends
  unfolding two_lists
  lists_rule =
      before (λ rest a. tt) (reads (λ p. p.0) list_rule (λ a. reads_last (λ p. p.1) (λ b. (a, b)) list_rule (λ b. ((tt, refl), refl))
      (λ p known. rw (← known.1) refl)))

  -- what stands behind the word of a form
  abbrev Behind : LetWord → LetForm → Texts
  Behind Gens = Image form.Gens Listed
  Behind Plus = Image (λ p. form.Plus p.0 p.1) Lists
  Behind Product = Image (λ p. form.Product p.0 p.1) Lists
  Behind Apply = Split (lets.list names) (λ at f. one (Sign 58) ▸ Image (form.Apply at) (IsExpression names true) f)

  form_rule : (v : LetWord) → Rule bad any (form_by names v) (Behind v) Ends
  unfolding applied
  form_rule Gens = makes form.Gens listed_rule
  form_rule Plus = makes (λ p. form.Plus p.0 p.1) lists_rule
  form_rule Product = makes (λ p. form.Product p.0 p.1) lists_rule
  form_rule Apply =
      binds list_rule (λ at. passes (sign_rule 58) (makes (form.Apply at) (before ends_sum (expression_rule bad names true))))
      (λ at f back rest h a. tt)

  let_form_rule : Rule bad any (let_form names) (lets.let_form names) Ends
  unfolding let_form let_word
  let_form_rule =
      like there back (λ rest a. a)
      (choice_rule (λ v. word_seen (key_of v)) (Gens ∷ Plus ∷ Product ∷ Apply ∷ []) (λ v rest. own v) (λ _. false) TooMany (form_by names)
      (form_of_word names) let_word (λ i. refl) (λ v i. refl) form_rule (never {L = λ _. lets.none} (λ i j x e. cc) (λ x ls h. h))
      (λ v x used rest h after. absurd h))
    where
      Form : LetForm → Texts
      Form f ls = Chosen (λ v. Word (key_of v)) (λ _. false) Behind f ls ⊎ lets.none ls

      by : (f : LetForm) (ls : List Lexeme) (v : LetWord) → (one (Word (key_of v)) ▸ Behind v f) ls → lets.let_form names f ls
      by f ls Gens h =
          let s = h.second.spelled in
          subst (λ (g : LetForm). lets.let_form names g ls) (ap form.Gens s.value ∙ h.second.value) (s.few, replaced h s.spelled)
      by f ls Plus h = subst (λ (g : LetForm). lets.let_form names g ls) h.second.value (joined_to_left (replaced h h.second.spelled))
      by f ls Product h = subst (λ (g : LetForm). lets.let_form names g ls) h.second.value (joined_to_left (replaced h h.second.spelled))
      by f ls Apply h =
          let s = h.second.spelled in
          let x = s.second.second in
          subst (λ (g : LetForm). lets.let_form names g ls) x.value
          (joined_to_left (joined_to_left (replaced h (replaced s (replaced s.second x.spelled)))))

      there : (f : LetForm) (ls : List Lexeme) → Form f ls → lets.let_form names f ls
      there f ls (inl c) = by f ls c.choice c.spelled
      there f ls (inr h) = absurd h

      two : (v : LetWord) (make : ℕ × ℕ → LetForm) (a b : ℕ) (ls : List Lexeme) →
          (one (Word (key_of v)) ▸ lets.list names a ▸ lets.list names b) ls → (one (Word (key_of v)) ▸ Image make Lists (make (a, b))) ls
      two v make a b ls h = let k = joined_to_right h in replaced k (record { item = (a, b); value = refl; spelled = k.second })

      back : (f : LetForm) (ls : List Lexeme) → lets.let_form names f ls → Form f ls
      back (form.Gens []) ls h = absurd h.1.second
      back (form.Gens (x ∷ xs)) ls h =
          inl (record {
            choice = Gens;
            room = refl;
            spelled = replaced h.1 (record {
              item = x ∷ xs;
              value = refl;
              spelled = record { first = x; more = xs; few = h.0; value = refl; spelled = h.1.second };
            });
          })
      back (form.Plus a b) ls h = inl (record { choice = Plus; room = refl; spelled = two Plus (λ p. form.Plus p.0 p.1) a b ls h })
      back (form.Product a b) ls h = inl (record { choice = Product; room = refl; spelled = two Product (λ p. form.Product p.0 p.1) a b ls h })
      back (form.Apply a x) ls h =
          let k = joined_to_right (joined_to_right h) in
          inl (record {
            choice = Apply;
            room = refl;
            spelled = replaced k (record {
              item = a;
              spelled = replaced k.second (replaced k.second.second (record { item = x; value = refl; spelled = k.second.second.second }));
            });
          })

  -- a definition behind its first word
  abbrev Defined : Definition → Texts
  Defined d = lets.declared names d.text ▸ (one (Sign 61) ▸ (lets.let_form names d.form ▸ one LineEnd))

  definition_rule : Rule bad any (definition names) Defined (IsFresh bad)
  unfolding definition
  definition_rule =
      reads (λ d. d.text) new_name_rule (λ text. passes (sign_rule 61) (reads_before (λ d. d.form) let_form_rule (λ f.
      ends_with (record { text = text; form = f }) ((tt, refl), refl) (λ d known. rw (← known.0.1, ← known.1) refl))
      (λ d back rest u a. (rest, ap (λ ls. ls ++ rest) u))))

-- ---- lines

module _ (bad : Option ℕ) (variables : List Naming) where
  pub let_lines_rule : Rule bad any (let_lines variables) (lets.let_lines variables) (AfterLines bad 2)
  unfolding let_lines let_lines_from
  let_lines_rule =
      whole_list (key_lines_rule starts.Let 2 (omega arith) (λ found. definition (with_definitions variables found)) (let_lines_from variables)
      (λ found. refl) (λ n found. refl) (λ found. definition_rule bad (with_definitions variables found)) (lets.let_lines_behind variables)
      (λ found ls u. u) (λ found ls u. u)
      (λ found d ds ls h. on_first (λ xs k. joined_to_left (joined_to_left (joined_to_left k))) (joined_to_left h))
      (λ found d ds ls h. joined_to_right (on_first (λ xs k. joined_to_right (joined_to_right (joined_to_right k))) h)) 8 [])

  pub leads_lets : (ds : List Definition) → Leads bad 1 2 (lets.let_lines variables ds)
  leads_lets [] = λ back rest u a. leads_nothing bad 1 2 (omega arith) back rest u.1 a
  leads_lets (d ∷ ds) =
      λ back rest u a. leads_key bad starts.Let 1 2 _ (omega arith) back rest
      (joined_to_right (joined_to_right (joined_to_right (joined_to_right u.1)))) a
