-- The rules of a problem's lines before the last one. Main lemma `problem_lines_rule`.
use Rattle.ct_problem.proofs.Base.{Bool, ◌≡◌, ℕ, ◌<◌, ◌≤◌, cond, nat_lt, le-ltb, ltb-false, List, [], ◌∷◌, ◌++◌, ◌⊎◌, inl, inr, Option, Some, None}
use Rattle.ct_problem.proofs.Base.{refl, ap, ◌∙◌, subst, arith, codes, largest_norm, Naming, Expr, OutOfRange, EmptyRange, Gens, Listed, Named, Range}
use Rattle.ct_problem.proofs.Base.{Parser, ◌>>=◌, ◌>>◌, pure, skip, line_end, AreFew, Definition, with_definitions, Lexeme, Word, Number, Dots}
use Rattle.ct_problem.proofs.Base.{LineEnd, Texts, nothing, one, number, ◌▸◌, Names, fault_if, values, value_lines, used, listed_or_used, generators}
use Rattle.ct_problem.proofs.Base.{high_number, range, range_line, Reading, head, body}
use Rattle.ct_problem.proofs.Frame.{Ok-same, joined_nothing, joined_to_left, joined_to_right, nothing_joined, from_nothing, to_nothing, on_first}
use Rattle.ct_problem.proofs.Frame.{on_second, replaced, replaced_both, shows_word, test_failed, anywhere}
use Rattle.ct_problem.specs.GrammarLets as lets
use Rattle.ct_problem.specs.GrammarProblem as grammar
use Rattle.ct_problem.specs.Lines.{no_more}
use Rattle.ct_problem.proofs.LineStarts.{Key, word_of, rank, rank_is, rank_of, AfterLines, Leads, other_word, fresh_before, leads_nothing, leads_key}
use Rattle.ct_problem.proofs.LineStarts.{leads_join}
use Rattle.ct_problem.proofs.LineStarts as starts
use Rattle.ct_problem.proofs.Rules.{any, Rule, like, reads_on, reads_before, reads_last, passes, passes_before, dots_rule, number_rule, coming_rule}
use Rattle.ct_problem.proofs.Rules.{line_end_rule, fresh_line_rule, Split, Made, Image, binds, makes, result}
use Rattle.ct_problem.proofs.RuleChoices.{word_test, decides, or_else}
use Rattle.ct_problem.proofs.LineRules.{header_rule, past_rule, values_rule}
use Rattle.ct_problem.proofs.LetRules.{list_rule, let_lines_rule, leads_lets}
use Rattle.ct_problem.proofs.NameRules.{FewNames, declarations_rule}
use Rattle.ct_problem.proofs.DenRules.{den_lines_rule, leads_dens}

-- all the lines, with as many names as there may be
abbrev pub Before : Reading → Texts
Before p ls = AreFew p.variables × grammar.lines p ls

-- lines from one rank up to another: what is read as them, and how they begin
record Lines (bad : Option ℕ) (r s : ℕ) {A : Type 0} (K : A → Type 0) (p : Parser A) (L : A → Texts) : Type 0 where
  all : Rule bad K p L (AfterLines bad s)
  leads : (x : A) → Leads bad r s (L x)

module _ {bad : Option ℕ} {r m s : ℕ} {A B : Type 0} {K : B → Type 0} {p : Parser A} {M : A → Texts} (part : B → A) where
  followed : {f : A → Parser B} {N : B → Texts} → Lines bad r m any p M → ((x : A) → Lines bad m s (λ y. K y × (part y ≡ x)) (f x) N) →
      Lines bad r s K (p >>= f) (λ y. M (part y) ▸ N y)
  followed {N = N} first second = record {
    all = reads_before part first.all (λ x. (second x).all) (λ y back rest n a. (second (part y)).leads y back rest n a);
    leads = λ y. leads_join bad r m s (M (part y)) (N y) (first.leads (part y)) ((second (part y)).leads y);
  }

module _ {bad : Option ℕ} {r s : ℕ} {A B : Type 0} {K : B → Type 0} {p : Parser A} {M : A → Texts} (part : B → A) where
  ended : (make : A → B) → Lines bad r s any p M → ((x : A) → K (make x) × (part (make x) ≡ x)) → ((y : B) → K y → make (part y) ≡ y) →
      Lines bad r s K (p >>= (λ x. pure (make x))) (λ y. M (part y))
  ended make first known only = record { all = reads_last part make first.all known only; leads = λ y. first.leads (part y) }

module _ (bad : Option ℕ) where
  module _ (k : Key) (r : ℕ) (below : rank_of (word_of k) < r) where
    below_next : rank k ≤ r
    below_next = let e = rank_is k in omega (arith, e, below)

    value_lines_are : (names : Names) → Lines bad (rank k) r any (value_lines names (word_of k)) (values names (word_of k))
    value_lines_are names = record { all = values_rule names k r below; leads = by }
      where
        by : (xs : List Expr) → Leads bad (rank k) r (λ ls. grammar.values names (word_of k) xs ls)
        by [] back rest u a = leads_nothing bad (rank k) r below_next back rest u.1 a
        by (x ∷ xs) back rest u a = leads_key bad k (rank k) r _ (omega arith) back rest (joined_to_right u.1) a

    -- the end of a line that is the only one of its kind
    abbrev Ended : {A : Type 0} → A → A → Texts
    Ended x y ls = (x ≡ y) × one LineEnd ls

    only_line : {A : Type 0} (x : A) → Rule bad any (line_end >> (no_more (word_of k) >> pure x)) (Ended x) (AfterLines bad r)
    only_line x =
        like (λ y ls s. (s.spelled.second.0, joined_nothing (on_second (λ xs m. m.1) s.spelled)))
        (λ y ls e. record { item = tt; spelled = on_second (λ xs none. (e.0, none)) (to_nothing e.1) }) (λ rest a. a)
        (binds line_end_rule (λ _. past_rule (word_of k) r x below) (λ _ y back rest m a. fresh_before bad back rest a.fresh))

  -- ---- ranges

  module _ (limit : ℕ) (most : limit ≤ largest_norm) where
    abbrev IsHigh : ℕ → ℕ → Type 0
    IsHigh low n = (low ≤ n) × (n ≤ limit)

    abbrev High : ℕ → ℕ → Texts
    High low n ls = IsHigh low n × one (Number n) ls

    high_rule : (low : ℕ) → Rule bad any (high_number limit low) (High low) anywhere
    unfolding high_number
    high_rule low =
        coming_rule (IsHigh low) (λ n. fault_if (nat_lt limit n) OutOfRange >> (fault_if (nat_lt n low) EmptyRange >> (skip >> pure n)))
        (λ n high. let within = high.1 in omega (arith, within, most)) (λ n i j x small e.
        let t = test_failed (nat_lt limit n) OutOfRange (fault_if (nat_lt n low) EmptyRange >> (skip >> pure n)) i j x e in
        let u = test_failed (nat_lt n low) EmptyRange (skip >> pure n) i j x t.1 in
        ((ltb-false n low u.0, ltb-false limit n t.0), Ok-same u.1)) (λ n i high.
        ap (λ (b : Bool). (fault_if b OutOfRange >> (fault_if (nat_lt n low) EmptyRange >> (skip >> pure n))) i) (le-ltb limit n high.1)
        ∙ ap (λ (b : Bool). (fault_if b EmptyRange >> (skip >> pure n)) i) (le-ltb n low high.0))

    abbrev range_of : ℕ → ℕ → Range
    range_of low high = record { low = low; high = high }

    range_rule : Rule bad any (range limit) (grammar.range limit) anywhere
    unfolding range
    range_rule =
        like there back (λ rest a. a) (binds (number_rule limit OutOfRange most) (λ low. passes dots_rule (makes (range_of low) (high_rule low)))
        (λ low r back rest h a. tt))
      where
        there : (r : Range) (ls : List Lexeme) → Split (number limit) (λ low q. one Dots ▸ Image (range_of low) (High low) q) r ls →
            grammar.range limit r ls
        there r ls s =
            let h = s.spelled.second.second in
            subst (λ (q : Range). grammar.range limit q ls) h.value
            (record {
              rising = h.spelled.0.0;
              spelled = joined_to_left (replaced s.spelled (replaced s.spelled.second (h.spelled.0.1, h.spelled.1)));
            })

        back : (r : Range) (ls : List Lexeme) → grammar.range limit r ls →
            Split (number limit) (λ low q. one Dots ▸ Image (range_of low) (High low) q) r ls
        back r ls g =
            let k = joined_to_right g.spelled in
            let high = k.second.second in
            record {
              item = r.low;
              spelled = replaced k (replaced k.second (record { item = r.high; value = refl; spelled = ((g.rising, high.0), high.1) }));
            }

    module _ (k : Key) (r : ℕ) (below : rank_of (word_of k) < r) where
      abbrev Range_line : Option Range → Texts
      Range_line = grammar.range_line (word_of k) limit

      abbrev Behind : Option Range → Texts
      Behind = Split (grammar.range limit) (λ x. Ended k r below (Some x))

      range_is : Lines bad (rank k) r any (range_line (word_of k) limit) Range_line
      unfolding range_line
      range_is = record {
        all = decides
            (λ is_there. cond is_there (range limit >>= (λ x. line_end >> (no_more (word_of k) >> pure (Some x)))) (pure None))
            (word_test (word_of k))
            (binds range_rule (λ x. only_line k r below (Some x)) (λ x o back rest h a. tt)) (result None) to_yes
            (λ o ls m. subst (λ (p : Option Range). Range_line p ls) m.0 m.1) which (λ o used rest m a.
            ap (λ ls. shows_word (word_of k) (ls ++ rest)) m.1 ∙ other_word (word_of k) r rest below a.from);
        leads = leads;
      }
        where
          to_yes : (o : Option Range) (ls : List Lexeme) → (one (Word (word_of k)) ▸ Behind o) ls → Range_line o ls
          to_yes o ls h =
              let s = h.second.spelled in
              subst (λ (p : Option Range). Range_line p ls) s.second.0 (joined_to_left (replaced h (replaced s s.second.1)))

          which : (o : Option Range) (ls : List Lexeme) → Range_line o ls → (one (Word (word_of k)) ▸ Behind o) ls ⊎ Made None o ls
          which None ls h = inr (refl, h)
          which (Some x) ls h =
              let j = joined_to_right h in
              inl (replaced j (record { item = x; spelled = replaced j.second (refl, j.second.second) }))

          leads : (o : Option Range) → Leads bad (rank k) r (Range_line o)
          leads None = leads_nothing bad (rank k) r (below_next k r below)
          leads (Some x) = λ back rest h a. leads_key bad k (rank k) r _ (omega arith) back rest (joined_to_right h) a

  -- ---- generators

  module _ (names : Names) where
    -- a `use` line behind its first word
    abbrev Used : Gens → Texts
    Used = Split (lets.list names) (λ at. Ended starts.Use 4 (omega arith) (Named at))

    -- what stands behind these `gen` lines
    abbrev Or_used : List Expr → Gens → Texts
    Or_used [] g ls = (one (Word (codes "use")) ▸ Used g) ls ⊎ Made (Listed []) g ls
    Or_used (x ∷ xs) g ls = Made (Listed (x ∷ xs)) g ls

    or_used_rule : (xs : List Expr) → Rule bad any (listed_or_used names xs) (Or_used xs) (AfterLines bad 4)
    unfolding used
    or_used_rule [] =
        or_else (λ is_used. cond is_used (used names) (pure (Listed []))) (word_test (codes "use"))
        (binds (list_rule bad names) (λ at. only_line starts.Use 4 (omega arith) (Named at)) (λ at g back rest h a. tt)) (result (Listed []))
        (λ g used rest m a. ap (λ ls. shows_word (codes "use") (ls ++ rest)) m.1 ∙ other_word (codes "use") 4 rest (omega arith) a.from)
    or_used_rule (x ∷ xs) = result (Listed (x ∷ xs))

    generators_are : Lines bad 2 4 any (generators names) (grammar.generators names)
    unfolding generators
    generators_are = record {
      all = like (λ g ls s. there g ls s.item s.spelled) apart (λ rest a. a)
          (binds (values_rule names starts.Gen 3 (omega arith)) or_used_rule between);
      leads = leads;
    }
      where
        Gen_lines : List Expr → Texts
        Gen_lines xs = values names (codes "gen") xs

        there : (g : Gens) (ls : List Lexeme) (xs : List Expr) → (Gen_lines xs ▸ Or_used xs g) ls → grammar.generators names g ls
        there g ls [] h = by h.second
          where
            by : Or_used [] g h.back → grammar.generators names g ls
            by (inl u) =
                let o = u.second in
                subst (λ (q : Gens). grammar.generators names q ls) o.spelled.second.0
                (nothing_joined {a = one (Word (codes "use")) ▸ lets.list names o.item ▸ one LineEnd}
                (replaced_both h h.first.1 (joined_to_left (replaced u (replaced o.spelled o.spelled.second.1)))))
            by (inr m) = subst (λ (q : Gens). grammar.generators names q ls) m.0 (joined_nothing (replaced h m.1))
        there g ls (x ∷ xs) h = subst (λ (q : Gens). grammar.generators names q ls) h.second.0 (joined_nothing (replaced h h.second.1))

        apart : (g : Gens) (ls : List Lexeme) → grammar.generators names g ls → Split Gen_lines Or_used g ls
        apart (Listed []) ls h = record { item = []; spelled = on_second (λ ms none. inr (refl, none)) (to_nothing h) }
        apart (Listed (x ∷ xs)) ls h = record { item = x ∷ xs; spelled = on_second (λ ms none. (refl, none)) (to_nothing h) }
        apart (Named at) ls h =
            let k = joined_to_right h in
            let u : (one (Word (codes "use")) ▸ Used (Named at)) ls =
            replaced k (record { item = at; spelled = replaced k.second (refl, k.second.second) }) in
            record { item = []; spelled = on_first (λ ms none. (omega arith, none)) (from_nothing (inl u)) }

        between : (xs : List Expr) (g : Gens) (back rest : List Lexeme) → Or_used xs g back → AfterLines bad 4 rest → AfterLines bad 3 (back ++ rest)
        between [] g back rest (inl h) a = leads_key bad starts.Use 3 4 _ (omega arith) back rest h a
        between [] g back rest (inr m) a = leads_nothing bad 3 4 (omega arith) back rest m.1 a
        between (x ∷ xs) g back rest m a = leads_nothing bad 3 4 (omega arith) back rest m.1 a

        leads : (g : Gens) → Leads bad 2 4 (grammar.generators names g)
        leads (Listed xs) = (value_lines_are starts.Gen 4 (omega arith) names).leads xs
        leads (Named at) = λ back rest h a. leads_key bad starts.Use 2 4 _ (omega arith) back rest (joined_to_right h) a

  -- ---- the lines before the last one

  -- behind the first line, the names and the `let` lines
  module _ (h : List Naming × List Definition) where
    abbrev names : Names
    names = with_definitions h.0 h.1

    abbrev Body : Reading → Texts
    Body p =
        grammar.generators names p.generators
        ▸ (grammar.den_lines names p.dens
        ▸ (values names (codes "target") p.targets
        ▸ (grammar.range_line (codes "order") 8 p.orders ▸ grammar.range_line (codes "degree") 12 p.degrees)))

    body_is : Lines bad 2 8 (λ p. any p × ((p.variables, p.definitions) ≡ h)) (body h.0 h.1) Body
    unfolding body
    body_is =
        followed (λ p. p.generators) (generators_are names) (λ gens.
        followed (λ p. p.dens) (record { all = den_lines_rule bad names; leads = leads_dens bad names }) (λ dens.
        followed (λ p. p.targets) (value_lines_are starts.Target 6 (omega arith) names) (λ targets.
        followed (λ p. p.orders) (range_is 8 (omega arith) starts.Order 7 (omega arith)) (λ orders.
        ended (λ p. p.degrees) (λ degrees. record {
          variables = h.0;
          definitions = h.1;
          generators = gens;
          dens = dens;
          targets = targets;
          orders = orders;
          degrees = degrees;
        }) (range_is 12 (omega arith) starts.Degree 8 (omega arith)) (λ degrees. ((((((tt, refl), refl), refl), refl), refl), refl))
        (λ p known. rw (← known.0.0.0.0.1, ← known.0.0.0.1, ← known.0.0.1, ← known.0.1, ← known.1) refl)))))

  abbrev Head : List Naming × List Definition → Texts
  Head h = nothing ▸ (grammar.header (codes "problem") ▸ (FewNames h.0 ▸ lets.let_lines h.0 h.1))

  head_rule : Rule bad any head Head (AfterLines bad 2)
  unfolding head
  head_rule =
      passes_before fresh_line_rule (passes_before (header_rule (codes "problem"))
      (reads_on (λ variables h. lets.let_lines variables h.1) (λ h. h.0) (declarations_rule bad) (λ variables.
      reads_last (λ h. h.1) (λ definitions. (variables, definitions)) (let_lines_rule bad variables) (λ definitions. ((tt, refl), refl))
      (λ h known. rw (← known.1) refl)) (λ h back rest u a. leads_lets bad h.0 h.1 back rest u a))
      (λ h back rest u a. fresh_before bad back rest a.fresh)) (λ h back rest u a. fresh_before bad back rest a.fresh)

  pub problem_lines_rule : Rule bad any (head >>= (λ h. body h.0 h.1)) Before (AfterLines bad 8)
  problem_lines_rule =
      like there back (λ rest a. a) (reads_on Body (λ p. (p.variables, p.definitions)) head_rule (λ h. (body_is h).all)
      (λ p back rest u a. (body_is (p.variables, p.definitions)).leads p back rest u a))
    where
      All : Reading → Texts
      All p = Head (p.variables, p.definitions) ▸ Body (p.variables, p.definitions) p

      there : (p : Reading) (ls : List Lexeme) → All p ls → Before p ls
      there p ls k = (
        (nothing_joined k.first).second.first.0,
        joined_to_left (joined_to_left (joined_to_left (joined_to_left
            (on_first (λ xs h. joined_to_left (on_second (λ ys n. on_first (λ zs f. f.1) n) (nothing_joined h))) k)))),
      )

      back : (p : Reading) (ls : List Lexeme) → Before p ls → All p ls
      back p ls b =
          on_first (λ xs h. from_nothing (on_second (λ ys n. on_first (λ zs f. (b.0, f)) n) (joined_to_right h)))
          (joined_to_right (joined_to_right (joined_to_right (joined_to_right b.1))))
