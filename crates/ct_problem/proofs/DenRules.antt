-- The rules of `den` lines. There are no more lines than summed names: each takes one for which nothing stood (`room-taken`).
-- Main lemma `den_lines_rule`.
use Rattle.ct_problem.proofs.Rules.{Image, makes, any, Rule, like, binds, result, Split, Made, same_rule, looks, unless, passes}
use Rattle.ct_problem.proofs.Base.{◌≡◌, ℕ, zero, suc, ◌+◌, ◌≤◌, max, ◌&&◌, Bool, true, false, cond, List, [], ◌∷◌, ◌++◌, length, Option, Some, None}
use Rattle.ct_problem.proofs.Base.{Ok, IsTrue, slice_get, refl, sym, ap, ◌∙◌, subst, arith, codes, is_none, false≢true, ◌⊎◌, inl, inr, Naming}
use Rattle.ct_problem.proofs.Base.{is_summed, Expr, WrongKind, Known, Variable, Let, Unknown, Dens, no_dens, is_given, with_den, is_summed_name}
use Rattle.ct_problem.proofs.Base.{summed_by, summed_word, summed_name, once, den_line, den_lines, den_lines_from, Input, Parser, ◌>>=◌, ◌>>◌, pure}
use Rattle.ct_problem.proofs.Base.{fault, look, place, skip, next, past, expect, sees_word, eat_word, Lexeme, Word, Sign, Texts, one, ◌▸◌, each}
use Rattle.ct_problem.proofs.Base.{IsSummed, Names, known, summed_texts, length-map}
use Rattle.ct_problem.proofs.Frame.{Ok-same, joined_to_left, joined_to_right, shows_word, on_first, replaced, replaced_both, anywhere, IsFresh}
use Rattle.ct_problem.specs.Lines as read
use Rattle.ct_problem.specs.GrammarProblem as grammar
use Rattle.ct_problem.proofs.AlgebraNames.{with_text-length}
use Rattle.ct_problem.proofs.GivenDens.{length-with_den}
use Rattle.ct_problem.proofs.KnownNames.{known-variable, variable-known}
use Rattle.ct_problem.proofs.LineStarts.{AfterLines, Leads, other_word, fresh_before, leads_nothing, leads_key}
use Rattle.ct_problem.proofs.LineStarts as starts
use Rattle.ct_problem.proofs.RuleChoices.{sign_rule, meant_rule, word_test, decides}
use Rattle.ct_problem.proofs.LineRules.{value_rule, past_rule}

-- the summed names for which nothing stands
room : List Naming → Dens → ℕ
room [] ds = 0
room (n ∷ ns) [] = 0
room (n ∷ ns) (d ∷ ds) = cond (is_summed n.role && is_none d) 1 0 + room ns ds

room-none : (ns : List Naming) → room ns (no_dens ns) ≡ length (summed_texts ns)
unfolding room
room-none [] = refl
room-none (n ∷ ns) =
    let rest = room-none ns in
    let e = with_text-length n.role n.text (summed_texts ns) in
    let same = by (is_summed n.role) in
    omega (arith, rest, e, same)
  where
    by : (b : Bool) → cond {A = ℕ} (b && true) 1 0 ≡ cond {A = ℕ} b 1 0
    by true = refl
    by false = refl

-- a line takes one of them
room-taken : (ns : List Naming) (ds : Dens) (at : ℕ) (x : Expr) → length ds ≡ length ns → IsTrue (is_summed_name (slice_get ns at)) →
    is_given at ds ≡ false → room ns ds ≡ suc (room ns (with_den at x ds))
unfolding room
room-taken [] ds zero x same summed other = absurd (false≢true summed)
room-taken [] ds (suc at) x same summed other = absurd (false≢true summed)
room-taken (n ∷ ns) [] at x same summed other = absurd (omega (arith, same))
room-taken (n ∷ ns) (Some y ∷ ds) zero x same summed other = absurd (false≢true (sym other))
room-taken (n ∷ ns) (None ∷ ds) zero x same summed other =
    let now : cond {A = ℕ} (is_summed n.role && true) 1 0 ≡ 1 = ap (λ (b : Bool). cond {A = ℕ} (b && true) 1 0) summed in
    let later : cond {A = ℕ} (is_summed n.role && false) 1 0 ≡ 0 = ap (λ (b : Bool). cond {A = ℕ} (b && false) 1 0) summed in
    omega (arith, now, later)
room-taken (n ∷ ns) (d ∷ ds) (suc at) x same summed other =
    let count : length ds ≡ length ns = omega (arith, same) in
    let rest = room-taken ns ds at x count summed other in
    omega (arith, rest)

module _ (bad : Option ℕ) (names : Names) where
  summed_rule : Rule bad any (summed_name names) (grammar.summed names) anywhere
  unfolding summed_name
  summed_rule =
      like (λ at ls h. record { letters = h.letters; named = h.means; spelled = h.spelled })
      (λ at ls h. record { letters = h.letters; means = h.named; spelled = h.spelled }) (λ rest a. a)
      (meant_rule (IsSummed names) (summed_word names) (λ letters. summed_by names (known letters names)) (λ i. refl) refl (λ s. refl) refl refl refl
      (λ letters i j at e. is letters i j at (known letters names) refl e)
      (λ letters i at s. ap (λ (k : Known). summed_by names k i) (known-variable letters at names s.first)
      ∙ ap (λ (b : Bool). cond {A = Parser ℕ} b (skip >> pure at) (fault WrongKind) i) s.summed))
    where
      summed_if : (letters : List ℕ) (i j : Input) (at n : ℕ) → known letters names ≡ Variable n → (b : Bool) →
          is_summed_name (slice_get names.variables n) ≡ b
          → cond {A = Parser ℕ} b (skip >> pure n) (fault WrongKind) i ≡ Ok (at, j) → IsSummed names letters at × (next i ≡ j)
      summed_if letters i j at n e true s h =
          let both = Ok-same h in
          (subst (IsSummed names letters) both.0 (record { first = variable-known letters n names e; summed = s }), both.1)
      summed_if letters i j at n e false s h = cc

      is : (letters : List ℕ) (i j : Input) (at : ℕ) (k : Known) → known letters names ≡ k → summed_by names k i ≡ Ok (at, j) →
          IsSummed names letters at × (next i ≡ j)
      is letters i j at (Variable n) e h = summed_if letters i j at n e (is_summed_name (slice_get names.variables n)) refl h
      is letters i j at (Let n) e h = cc
      is letters i j at Unknown e h = cc

  -- the line of a name for which nothing stood, behind its first word
  record OneDen (found after : Dens) (ls : List Lexeme) : Type 0 where
    line : ℕ × Expr
    other : is_given line.0 found ≡ false
    gives : with_den line.0 line.1 found ≡ after
    spelled : (grammar.summed names line.0 ▸ (one (Sign 58) ▸ grammar.value names false line.1)) ls

  abbrev behind_key : Dens → ℕ → Parser Dens
  behind_key found start =
      summed_name names >>=
      (λ at. once names (is_given at found) start >> (expect 58 >> (read.value names false >>= (λ x. pure (with_den at x found)))))

  abbrev Behind : Dens → ℕ → Dens → Texts
  Behind found at ds ls = (is_given at found ≡ false) × (one (Sign 58) ▸ Image (λ x. with_den at x found) (grammar.value names false) ds) ls

  behind_rule : (found : Dens) (start : ℕ) → Rule bad any (behind_key found start) (OneDen found) (IsFresh bad)
  behind_rule found start =
      like there back (λ rest a. a)
      (binds summed_rule (λ at. unless (λ b. once names b start) (is_given at found) (λ i j x e. cc) (λ i. refl)
      (passes (sign_rule 58) (makes (λ x. with_den at x found) (value_rule names false))))
      (λ at y back rest m a. tt))
    where
      there : (ds : Dens) (ls : List Lexeme) → Split (grammar.summed names) (Behind found) ds ls → OneDen found ds ls
      there ds ls h =
          let v = h.spelled.second.1.second in
          record {
            line = (h.item, v.item);
            other = h.spelled.second.0;
            gives = v.value;
            spelled = replaced h.spelled (replaced h.spelled.second.1 v.spelled);
          }

      back : (ds : Dens) (ls : List Lexeme) → OneDen found ds ls → Split (grammar.summed names) (Behind found) ds ls
      back ds ls o =
          let s = o.spelled in
          record {
            item = o.line.0;
            spelled = replaced s (o.other, replaced s.second (record { item = o.line.1; value = o.gives; spelled = s.second.second }));
          }

  -- at most n lines, after which these stand
  record MoreDens (most : ℕ) (found dens : Dens) (ls : List Lexeme) : Type 0 where
    lines : List (ℕ × Expr)
    few : length lines ≤ most
    gives : grammar.Gives names found lines dens
    spelled : each (grammar.den_line names) lines ls

  no_den : (n : ℕ) (found ds : Dens) (ls : List Lexeme) → Made found ds ls → MoreDens n found ds ls
  no_den n found ds ls m = record { lines = []; few = omega arith; gives = m.0; spelled = m.1 }

  -- a line, and at most n more
  abbrev OneMore : ℕ → Dens → Dens → Texts
  OneMore n found = Split (OneDen found) (MoreDens n)

  abbrev line_by : Dens → ℕ → ℕ → Bool → Parser Dens
  line_by found n start more = cond more (behind_key found start >>= (λ ds. den_lines_from names n ds)) (pure found)

  -- the first word of a line is taken as any other
  in_turn : (n : ℕ) (found : Dens) (i : Input) →
      den_lines_from names (suc n) found i ≡ (look place >>= (λ start. eat_word (codes "den") >>= line_by found n start)) i
  unfolding den_lines_from den_line eat_word
  in_turn n found i = by (sees_word (codes "den") i)
    where
      by : (b : Bool) → cond {A = Parser Dens} b (den_line names found >>= (λ ds. den_lines_from names n ds)) (pure found) i ≡
          line_by found n (place i) b (past b i)
      by true = refl
      by false = refl

  lines_rule : (n : ℕ) (found : Dens) → Rule bad any (den_lines_from names n found) (MoreDens n found) (AfterLines bad 5)
  unfolding den_lines_from
  lines_rule zero found = like (no_den 0 found) none (λ rest a. a) (past_rule (codes "den") 5 found (omega arith))
    where
      none : (ds : Dens) (ls : List Lexeme) → MoreDens 0 found ds ls → Made found ds ls
      none ds ls h = by h.lines h.few h.gives h.spelled
        where
          by : (lines : List (ℕ × Expr)) → length lines ≤ 0 → grammar.Gives names found lines ds → each (grammar.den_line names) lines ls →
              Made found ds ls
          by [] few gives spelled = (gives, spelled)
          by (d ∷ lines) few gives spelled = absurd (omega (arith, few))
  lines_rule (suc n) found =
      same_rule (in_turn n found) (looks place (λ start.
      decides (line_by found n start) (word_test (codes "den"))
      (binds (behind_rule found start) (λ ds. lines_rule n ds) (λ ds y back rest m a. fresh_before bad back rest a.fresh)) (result found)
      to_yes (no_den (suc n) found) which
      (λ ds used rest m a. ap (λ ls. shows_word (codes "den") (ls ++ rest)) m.1 ∙ other_word (codes "den") 5 rest (omega arith) a.from)))
    where
      to_yes : (ds : Dens) (ls : List Lexeme) → (one (Word (codes "den")) ▸ OneMore n found ds) ls → MoreDens (suc n) found ds ls
      to_yes ds ls h =
          let o = h.second.spelled.first in
          let more = h.second.spelled.second in
          let few = more.few in
          record {
            lines = o.line ∷ more.lines;
            few = omega (arith, few);
            gives = (o.other, subst (λ (es : Dens). grammar.Gives names es more.lines ds) (sym o.gives) more.gives);
            spelled = on_first (λ xs k. joined_to_left (joined_to_left k))
                (joined_to_left (replaced h (replaced_both h.second.spelled o.spelled more.spelled)));
          }

      which : (ds : Dens) (ls : List Lexeme) → MoreDens (suc n) found ds ls → (one (Word (codes "den")) ▸ OneMore n found ds) ls ⊎ Made found ds ls
      which ds ls h = by h.lines h.few h.gives h.spelled
        where
          by : (lines : List (ℕ × Expr)) → length lines ≤ suc n → grammar.Gives names found lines ds → each (grammar.den_line names) lines ls →
              (one (Word (codes "den")) ▸ OneMore n found ds) ls ⊎ Made found ds ls
          by [] few gives spelled = inr (gives, spelled)
          by (d ∷ lines) few gives spelled =
              let k = joined_to_right (on_first (λ xs l. joined_to_right (joined_to_right l)) spelled) in
              inl (replaced k (record {
                item = with_den d.0 d.1 found;
                spelled = replaced_both k.second (record { line = d; other = gives.0; gives = refl; spelled = k.second.first })
                    (record { lines = lines; few = omega (arith, few); gives = gives.1; spelled = k.second.second });
              }))

  -- there are at most this many lines
  few_lines : (lines : List (ℕ × Expr)) (found dens : Dens) (ls : List Lexeme) → length found ≡ length names.variables →
      grammar.Gives names found lines dens → each (grammar.den_line names) lines ls → length lines ≤ room names.variables found
  few_lines [] found dens ls same gives spelled = omega arith
  few_lines (d ∷ lines) found dens ls same gives spelled =
      let taken = room-taken names.variables found d.0 d.1 same spelled.first.first.first.second.named.summed gives.0 in
      let count : length (with_den d.0 d.1 found) ≡ length names.variables = length-with_den d.0 d.1 found ∙ same in
      let rest = few_lines lines (with_den d.0 d.1 found) dens spelled.back count gives.1 spelled.second in
      omega (arith, taken, rest)

  pub den_lines_rule : Rule bad any (den_lines names) (grammar.den_lines names) (AfterLines bad 5)
  unfolding den_lines
  den_lines_rule =
      like (λ dens ls m. record { lines = m.lines; gives = m.gives; spelled = m.spelled }) within (λ rest a. a)
      (lines_rule (max 1 (length (summed_texts names.variables))) (no_dens names.variables))
    where
      within : (dens : Dens) (ls : List Lexeme) → grammar.den_lines names dens ls →
          MoreDens (max 1 (length (summed_texts names.variables))) (no_dens names.variables) dens ls
      within dens ls d =
          let few = few_lines d.lines (no_dens names.variables) dens ls (length-map names.variables (λ n. None)) d.gives d.spelled in
          let all = room-none names.variables in
          record { lines = d.lines; few = omega (arith, few, all); gives = d.gives; spelled = d.spelled }

  pub leads_dens : (dens : Dens) → Leads bad 4 5 (grammar.den_lines names dens)
  leads_dens dens back rest d after = by d.lines d.spelled
    where
      by : (lines : List (ℕ × Expr)) → each (grammar.den_line names) lines back → AfterLines bad 4 (back ++ rest)
      by [] none = leads_nothing bad 4 5 (omega arith) back rest none after
      by (x ∷ xs) h = leads_key bad starts.Den 4 5 _ (omega arith) back rest (joined_to_right (joined_to_right (joined_to_right h))) after
