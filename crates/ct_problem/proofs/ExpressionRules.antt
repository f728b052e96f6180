-- The rules of expressions. Main lemma `expression_rule`, by induction on how many parentheses may be open.
use Rattle.ct_problem.proofs.Base.{◌≡◌, ℕ, zero, suc, ◌≤◌, ◌||◌, Bool, true, false, cond, List, [], ◌∷◌, ◌++◌, ◌⊎◌, inl, inr, length, map, Option}
use Rattle.ct_problem.proofs.Base.{Some, None, Ok, refl, sym, ap, ◌∙◌, subst, arith, is_none, length-append, append_assoc, append-nil, largest_degree}
use Rattle.ct_problem.proofs.Base.{Token, Expr, Summand, ExponentTooLarge, Syntax, Input, Outcome, and_then, codes, Parser, ◌>>=◌, ◌>>◌, ◌<$>◌, pure}
use Rattle.ct_problem.proofs.Base.{look, skip, next, eat, expect, sees, Names, product_of, factor, factors_from, term, joint, is_minus, joins}
use Rattle.ct_problem.proofs.Base.{summands_from, summands, sum, nested, expression, Lexeme, Word, Number, Sign, Texts, nothing, one, optional}
use Rattle.ct_problem.proofs.Base.{number, ◌▸◌, each, Term, sum_of, IsAtom, IsFactor, IsMoreFactor, IsTerm, IsMoreTerm, IsSum, IsNested, IsExpression}
use Rattle.ct_problem.proofs.Frame.{joined_nothing, joined_to_left, joined_to_right, nothing_joined, on_second, replaced, to_nothing, from_nothing}
use Rattle.ct_problem.proofs.Frame.{shows_sign, shown-symbol, taken, anywhere, Takes-next, Takes-skip, Takes-to_right}
use Rattle.ct_token.specs.declared.token.Symbol.TheVariants as symbol
use Rattle.ct_expr.specs.declared.expr.Expr.TheVariants as e
use Rattle.ct_problem.specs.Expressions.{summand}
use Rattle.ct_problem.specs.Grammar as grammar
use Rattle.ct_problem.specs.Input as input
use Rattle.ct_problem.specs.Number as digits
use Rattle.ct_problem.proofs.LexemeStarts.{Opens, Opens-joined, Opens-with, each-length, begun-length, begun-shows, AfterAtom, AfterFactor, AfterTerm}
use Rattle.ct_problem.proofs.LexemeStarts.{AfterSum, after_factor, after_term}
use Rattle.ct_problem.proofs.Rules.{before, any, Rule, like, same_rule, counted, Read-joined, at_once, reads_before, ends_by, Read-mapped}
use Rattle.ct_problem.proofs.Rules.{number_rule, Split, Made, Image, makes, binds, result}
use Rattle.ct_problem.proofs.RuleChoices.{sign_rule, sign_test, decides, or_else, sign_seen, chosen, Chosen, choice_rule}
use Rattle.ct_problem.proofs.RuleLists.{Separated, separated_rule}
use Rattle.ct_problem.proofs.AtomRules.{Enclosed, atom_rule}

-- ---- the sign before a term

abbrev sign_of : Bool → ℕ
sign_of negative = cond negative 45 43

abbrev which_sign : Input → Option Bool
which_sign i = cond (sees 43 i) (Some false) (cond (sees 45 i) (Some true) None)

abbrev sign_by : {A : Type 0} → (Bool → Parser A) → Parser A → Option Bool → Parser A
sign_by p none None = none
sign_by p none (Some negative) = skip >> p negative

-- `+` or `-`, and a rule for each, or neither
abbrev signed : {A : Type 0} → (Bool → Parser A) → Parser A → Parser A
signed p none = look which_sign >>= sign_by p none

abbrev Signed : {A : Type 0} → (Bool → A → Texts) → A → Texts
Signed M = Chosen (λ negative. Sign (sign_of negative)) (λ _. false) M

own : (negative : Bool) (rest : List Lexeme) →
    chosen (false ∷ true ∷ []) (λ (b : Bool). shows_sign (sign_of b) (Sign (sign_of negative) ∷ rest)) ≡ Some negative
own false rest = refl
own true rest = refl

module _ {bad : Option ℕ} {A : Type 0} {p : Bool → Parser A} {none : Parser A} {M : Bool → A → Texts} {N : A → Texts} {F : Texts} where
  signed_rule : ((negative : Bool) → Rule bad any (p negative) (M negative) F) → Rule bad any none N F →
      ((negative : Bool) (x : A) (used rest : List Lexeme) → N x used → F rest → shows_sign (sign_of negative) (used ++ rest) ≡ false)
      → Rule bad any (signed p none) (λ x ls. Signed M x ls ⊎ N x ls) F
  signed_rule each no_sign other =
      choice_rule (λ negative. sign_seen (sign_of negative)) (false ∷ true ∷ []) own (λ _. false) Syntax p (sign_by p none) which_sign (λ i. refl)
      (λ negative i. refl) each no_sign other

module _ (bad : Option ℕ) (names : Names) (operators : Bool) where
  module _ (inner : Parser Expr) (InParentheses : Expr → Texts) (enclosed : Enclosed bad inner InParentheses) where
    -- the sets of the rules
    abbrev Atom : Expr → Texts
    Atom = IsAtom names operators InParentheses

    abbrev Factor : Expr → Texts
    Factor = IsFactor names operators InParentheses

    abbrev Factors : List Expr → Texts
    Factors = each (IsMoreFactor names operators InParentheses)

    abbrev ATerm : Expr → Texts
    ATerm = IsTerm names operators InParentheses

    abbrev Terms : List Term → Texts
    Terms = each (IsMoreTerm names operators InParentheses)

    abbrev ASum : Expr → Texts
    ASum = IsSum names operators InParentheses

    -- ---- how the rules begin

    symbol_opens : (w letters : List ℕ) (ls : List Lexeme) → grammar.symbol w letters ls → Opens ls
    symbol_opens w letters ls h =
        let k = h.first.first in
        Opens-joined h (Opens-joined h.first (Opens-joined k (Opens-with (Word w) k.front [] k.first (λ rest. refl))))

    atom_opens : (x : Expr) (ls : List Lexeme) → Atom x ls → Opens ls
    atom_opens x ls (IsAtom.whole n value u) = Opens-with (Number n) ls [] u.1 (λ rest. refl)
    atom_opens x ls (IsAtom.ratio n d value some u) =
        Opens-joined u (Opens-joined u.first (Opens-with (Number n) u.first.front [] u.first.first.1 (λ rest. refl)))
    atom_opens x ls (IsAtom.variable letters at known value u) = Opens-with (Word letters) ls [] u (λ rest. refl)
    atom_opens x ls (IsAtom.shift letters at allowed acts value u) = symbol_opens (codes "S") letters ls u
    atom_opens x ls (IsAtom.derivation letters at allowed acts value u) = symbol_opens (codes "D") letters ls u
    atom_opens x ls (IsAtom.nested u) = let first = enclosed.opens x ls u in Opens-with (Sign 40) ls first.0 first.1 (λ rest. refl)

    factor_opens : (x : Expr) (ls : List Lexeme) → Factor x ls → Opens ls
    factor_opens x ls (IsFactor.plain u) = atom_opens x ls u
    factor_opens x ls (IsFactor.power base n value u) = Opens-joined u (Opens-joined u.first (atom_opens base u.first.front u.first.first))

    -- ---- factors

    -- what stands behind the base
    abbrev Raised : Expr → Expr → Texts
    Raised base x ls = (one (Sign 94) ▸ Image (e.Power base) (number largest_degree) x) ls ⊎ Made base x ls

    factor_rule : Rule bad any (factor names operators inner) Factor AfterFactor
    unfolding factor
    factor_rule =
        like there back (λ rest a. a) (binds (atom_rule bad names operators inner InParentheses enclosed) (λ base. or_else
        (λ is_power. cond is_power (digits.number largest_degree ExponentTooLarge >>= (λ n. pure (e.Power base n))) (pure base)) (sign_test 94)
        (before (λ rest a. tt) (makes (e.Power base) (number_rule largest_degree ExponentTooLarge (omega arith)))) (result base)
        (λ x used rest m a. ap (λ ls. shows_sign 94 (ls ++ rest)) m.1 ∙ a.no_power)) between)
      where
        there : (x : Expr) (ls : List Lexeme) → Split Atom Raised x ls → Factor x ls
        there x ls s = by s.spelled.second
          where
            by : Raised s.item x s.spelled.back → Factor x ls
            by (inl h) =
                IsFactor.power s.item h.second.item (sym h.second.value) (joined_to_left (replaced s.spelled (replaced h h.second.spelled)))
            by (inr m) = subst (λ (y : Expr). Factor y ls) m.0 (IsFactor.plain (joined_nothing (replaced s.spelled m.1)))

        back : (x : Expr) (ls : List Lexeme) → Factor x ls → Split Atom Raised x ls
        back x ls (IsFactor.plain u) = record { item = x; spelled = on_second (λ xs none. inr (refl, none)) (to_nothing u) }
        back x ls (IsFactor.power base n value u) =
            let k = joined_to_right u in record {
              item = base;
              spelled = replaced k (inl (replaced k.second (record { item = n; value = sym value; spelled = k.second.second })));
            }

        between : (base x : Expr) (back rest : List Lexeme) → Raised base x back → AfterFactor rest → AfterAtom (back ++ rest)
        between base x back rest (inl h) a = begun-shows (Sign 94) back rest AfterAtom h (λ ls. refl)
        between base x back rest (inr m) a = ap (λ ls. shows_sign 47 (ls ++ rest)) m.1 ∙ a.no_divisor

    -- ---- terms

    term_rule : Rule bad any (term names operators inner) ATerm AfterTerm
    unfolding term factors_from
    term_rule =
        counted (λ n. separated_rule product_of 42 factor_rule (factors_from names operators inner) (λ found i j x h. cc) (λ n found. refl)
        (λ rest a. a.no_factor) after_factor (λ ls. record { no_divisor = refl; no_power = refl }) (suc n) [])
        (λ n x ls s. record { first = s.first; more = s.more; value = sym s.value; spelled = s.spelled }) back
      where
        back : (n : ℕ) (x : Expr) (ls : List Lexeme) → length ls ≤ n → ATerm x ls → Separated product_of Factor 42 (suc n) [] x ls
        back n x ls enough t =
            let h = t.spelled in
            let more = each-length (IsMoreFactor names operators InParentheses) (λ y xs k. begun-length (Sign 42) xs k) t.more h.back h.second in
            let parts = ap length h.parts in
            let few : suc (length t.more) ≤ suc n = omega (arith, more, parts, length-append h.front h.back, enough) in
            record { first = t.first; more = t.more; few = few; value = sym t.value; spelled = h }

    -- ---- sums

    abbrev made : List Term → List Summand
    made ts = map (λ t. summand t.0 t.1) ts

    -- a sign ends a term
    sign_after : (negative : Bool) (ls : List Lexeme) → AfterTerm (Sign (sign_of negative) ∷ ls)
    sign_after true ls = record { no_divisor = refl; no_power = refl; no_factor = refl }
    sign_after false ls = record { no_divisor = refl; no_power = refl; no_factor = refl }

    terms_after : (more : List Term) (back rest : List Lexeme) → Terms more back → AfterSum rest → AfterTerm (back ++ rest)
    terms_after [] back rest h after = subst (λ (ls : List Lexeme). AfterTerm (ls ++ rest)) (sym h) (after_term rest after)
    terms_after (t ∷ more) back rest h after = begun-shows (Sign (sign_of t.0)) back rest AfterTerm (joined_to_right h) (sign_after t.0)

    no_sign : (negative : Bool) (used rest : List Lexeme) → nothing used → AfterSum rest → shows_sign (sign_of negative) (used ++ rest) ≡ false
    no_sign false used rest none a = ap (λ ls. shows_sign 43 (ls ++ rest)) none ∙ a.no_plus
    no_sign true used rest none a = ap (λ ls. shows_sign 45 (ls ++ rest)) none ∙ a.no_minus

    -- at most n terms, after those that were found
    record Summands (n : ℕ) (found xs : List Summand) (ls : List Lexeme) : Type 0 where
      more : List Term
      few : length more ≤ n
      value : found ++ made more ≡ xs
      spelled : Terms more ls

    -- a term with its sign, and at most n more
    abbrev next_by : ℕ → List Summand → Bool → Parser (List Summand)
    next_by n found negative = term names operators inner >>= (λ x. summands_from names operators inner n (found ++ summand negative x ∷ []))

    abbrev Next : ℕ → List Summand → Bool → List Summand → Texts
    Next n found negative = Split ATerm (λ x. Summands n (found ++ summand negative x ∷ []))

    -- a sign is read as any other
    in_turn : (n : ℕ) (found : List Summand) (i : Input) →
        summands_from names operators inner (suc n) found i ≡ signed (next_by n found) (pure found) i
    unfolding summands_from joint eat
    in_turn n found i = by (sees 43 i)
      where
        after : Option Bool → Parser (List Summand)
        after sign =
            cond (is_none sign) (pure found)
            (term names operators inner >>= (λ x. summands_from names operators inner n (found ++ summand (is_minus sign) x ∷ [])))

        minus : (b : Bool) → after (cond b (Some true) None) (input.past b i) ≡
            sign_by (next_by n found) (pure found) (cond b (Some true) None) i
        minus true = refl
        minus false = refl

        by : (b : Bool) →
            (cond b (pure (Some false)) (eat 45 >>= (λ subtracts. pure (cond subtracts (Some true) None))) >>= after) (input.past b i) ≡
            sign_by (next_by n found) (pure found) (cond b (Some false) (cond (sees 45 i) (Some true) None)) i
        by true = refl
        by false = minus (sees 45 i)

    no_term : (n : ℕ) (found xs : List Summand) (ls : List Lexeme) → Made found xs ls → Summands n found xs ls
    no_term n found xs ls m = record { more = []; few = omega arith; value = append-nil found ∙ m.0; spelled = m.1 }

    split_off : (n : ℕ) (found xs : List Summand) (ls : List Lexeme) (t : Term) (more : List Term) → length (t ∷ more) ≤ suc n →
        found ++ made (t ∷ more) ≡ xs → Terms (t ∷ more) ls → Signed (Next n found) xs ls
    split_off n found xs ls t more few value h =
        let k = joined_to_right h in
        record {
          choice = t.0;
          room = refl;
          spelled = replaced k (record {
            item = t.1;
            spelled = replaced k.second (record {
              more = more;
              few = omega (arith, few);
              value = append_assoc found (summand t.0 t.1 ∷ []) (made more) ∙ value;
              spelled = k.second.second;
            });
          });
        }

    summands_rule : (n : ℕ) (found : List Summand) → Rule bad any (summands_from names operators inner n found) (Summands n found) AfterSum
    unfolding summands_from
    summands_rule zero found = like (λ xs ls m. no_term 0 found xs ls m) back (λ rest a. a) (result found)
      where
        back : (xs : List Summand) (ls : List Lexeme) → Summands 0 found xs ls → Made found xs ls
        back xs ls s = by s.more s.few s.value s.spelled
          where
            by : (more : List Term) → length more ≤ 0 → found ++ made more ≡ xs → Terms more ls → Made found xs ls
            by [] few value h = (sym (append-nil found) ∙ value, h)
            by (t ∷ more) few value h = absurd (omega (arith, few))
    summands_rule (suc n) found =
        same_rule (in_turn n found) (like there back (λ rest a. a)
        (signed_rule (λ negative. binds term_rule (λ x. summands_rule n (found ++ summand negative x ∷ []))
        (λ x xs back rest s a. terms_after s.more back rest s.spelled a)) (result found)
        (λ negative xs used rest m a. no_sign negative used rest m.1 a)))
      where
        there : (xs : List Summand) (ls : List Lexeme) → Signed (Next n found) xs ls ⊎ Made found xs ls → Summands (suc n) found xs ls
        there xs ls (inl s) =
            let h = s.spelled.second in
            let m = h.spelled.second in
            let few = m.few in
            record {
              more = (s.choice, h.item) ∷ m.more;
              few = omega (arith, few);
              value = sym (append_assoc found (summand s.choice h.item ∷ []) (made m.more)) ∙ m.value;
              spelled = joined_to_left (replaced s.spelled (replaced h.spelled m.spelled));
            }
        there xs ls (inr m) = no_term (suc n) found xs ls m

        back : (xs : List Summand) (ls : List Lexeme) → Summands (suc n) found xs ls → Signed (Next n found) xs ls ⊎ Made found xs ls
        back xs ls s = by s.more s.few s.value s.spelled
          where
            by : (more : List Term) → length more ≤ suc n → found ++ made more ≡ xs → Terms more ls → Signed (Next n found) xs ls ⊎ Made found xs ls
            by [] few value h = inr (sym (append-nil found) ∙ value, h)
            by (t ∷ more) few value h = inl (split_off n found xs ls t more few value h)

    -- what stands behind the first term
    record Rest (negative : Bool) (first x : Expr) (ls : List Lexeme) : Type 0 where
      more : List Term
      value : sum_of negative first more ≡ x
      spelled : Terms more ls

    terms-length : (more : List Term) (ls : List Lexeme) → Terms more ls → length more ≤ length ls
    terms-length more ls h =
        each-length (IsMoreTerm names operators InParentheses) (λ t xs k. begun-length (Sign (sign_of t.0)) xs k) more ls h

    abbrev rest_by : Bool → Expr → Parser Expr
    rest_by negative first = look joins >>= (λ more. cond (negative || more) (e.Sum <$> summands names operators inner first negative) (pure first))

    negative_rule : (first : Expr) → Rule bad any (rest_by true first) (Rest true first) AfterSum
    unfolding summands
    negative_rule first =
        counted (λ n. makes e.Sum (summands_rule n (summand true first ∷ [])))
        (λ n x ls h. let s = h.spelled in record { more = s.more; value = ap e.Sum s.value ∙ h.value; spelled = s.spelled })
        (λ n x ls enough r. let count = terms-length r.more ls r.spelled in record {
          item = summand true first ∷ made r.more;
          value = r.value;
          spelled = record { more = r.more; few = omega (arith, count, enough); value = refl; spelled = r.spelled };
        })

    -- the same with at least one more term, and at most n more
    abbrev some_by : ℕ → Expr → Bool → Parser Expr
    some_by n first negative = e.Sum <$> next_by n (summand false first ∷ []) negative

    abbrev fewer : ℕ → ℕ
    fewer zero = zero
    fewer (suc n) = n

    fewer_is : (n k : ℕ) → suc k ≤ n → k ≤ fewer n
    fewer_is zero k few = absurd (omega (arith, few))
    fewer_is (suc n) k few = omega (arith, few)

    -- there is more to a sum where a sign comes
    by_sign : (first : Expr) (i : Input) → rest_by false first i ≡ signed (some_by (fewer (length i.left)) first) (pure first) i
    unfolding summands sees eat
    by_sign first i = by i.left
      where
        at_sum : Outcome (List Summand) → Outcome Expr
        at_sum o = and_then o (λ xs. pure (e.Sum xs))

        applied : (b : Bool) (p q : Parser Expr) (k : Input) → cond b p q k ≡ cond b (p k) (q k)
        applied true p q k = refl
        applied false p q k = refl

        either : (n : ℕ) (k : Input) (b c : Bool) →
            cond (b || c) (at_sum (sign_by (next_by n (summand false first ∷ [])) (pure (summand false first ∷ []))
            (cond b (Some false) (cond c (Some true) None)) k)) (Ok (first, k)) ≡
            sign_by (some_by n first) (pure first) (cond b (Some false) (cond c (Some true) None)) k
        either n k true c = refl
        either n k false true = refl
        either n k false false = refl

        by : (left : List Token) → rest_by false first (record i { left = left }) ≡
            signed (some_by (fewer (length left)) first) (pure first) (record i { left = left })
        by [] = refl
        by (t ∷ ts) =
            let k = record i { left = t ∷ ts } in
            applied (joins k) (e.Sum <$> summands names operators inner first false) (pure first) k
            ∙ ap (λ o. cond (joins k) (at_sum o) (Ok (first, k))) (in_turn (length ts) (summand false first ∷ []) k)
            ∙ either (length ts) k (sees 43 k) (sees 45 k)

    rest_rule : (negative : Bool) (first : Expr) → Rule bad any (rest_by negative first) (Rest negative first) AfterSum
    rest_rule true first = negative_rule first
    rest_rule false first =
        same_rule (by_sign first) (counted (λ n. signed_rule (λ negative. makes e.Sum
        (binds term_rule (λ x. summands_rule (fewer n) (summand false first ∷ summand negative x ∷ []))
        (λ x xs back rest s a. terms_after s.more back rest s.spelled a))) (result first)
        (λ negative x used rest m a. no_sign negative used rest m.1 a)) there back)
      where
        Some_rest : ℕ → Expr → Texts
        Some_rest n x ls = Signed (λ negative. Image e.Sum (Next (fewer n) (summand false first ∷ []) negative)) x ls ⊎ Made first x ls

        there : (n : ℕ) (x : Expr) (ls : List Lexeme) → Some_rest n x ls → Rest false first x ls
        there n x ls (inl s) =
            let h = s.spelled.second.spelled in
            let m = h.spelled.second in
            record {
              more = (s.choice, h.item) ∷ m.more;
              value = ap e.Sum m.value ∙ s.spelled.second.value;
              spelled = joined_to_left (replaced s.spelled (replaced h.spelled m.spelled));
            }
        there n x ls (inr m) = record { more = []; value = m.0; spelled = m.1 }

        back : (n : ℕ) (x : Expr) (ls : List Lexeme) → length ls ≤ n → Rest false first x ls → Some_rest n x ls
        back n x ls enough r = by r.more r.value r.spelled
          where
            by : (more : List Term) → sum_of false first more ≡ x → Terms more ls → Some_rest n x ls
            by [] value h = inr (value, h)
            by (t ∷ more) value h =
                let count = terms-length (t ∷ more) ls h in
                let room = fewer_is n (length more) (omega (arith, count, enough)) in
                let all = summand false first ∷ made (t ∷ more) in
                let s = split_off (fewer n) (summand false first ∷ []) all ls t more (omega (arith, room)) refl h in
                inl (record {
                  choice = s.choice;
                  room = refl;
                  spelled = replaced s.spelled (record { item = all; value = value; spelled = s.spelled.second });
                })

    sum_rule : Rule bad any (sum names operators inner) ASum AfterSum
    unfolding sum
    sum_rule =
        decides (λ negative. term names operators inner >>= rest_by negative) (sign_test 45) (signed_first true) (signed_first false) to_yes to_no
        which (λ x used rest s a. Opens-joined s.spelled (term_opens s.item s.spelled.front s.spelled.first) rest)
      where
        term_opens : (x : Expr) (ls : List Lexeme) → ATerm x ls → Opens ls
        term_opens x ls t = Opens-joined t.spelled (factor_opens t.first t.spelled.front t.spelled.first)

        signed_first : (negative : Bool) → Rule bad any (term names operators inner >>= rest_by negative) (Split ATerm (Rest negative)) AfterSum
        signed_first negative = binds term_rule (rest_rule negative) (λ first x back rest r a. terms_after r.more back rest r.spelled a)

        to_yes : (x : Expr) (ls : List Lexeme) → (one (Sign 45) ▸ Split ATerm (Rest true) x) ls → ASum x ls
        to_yes x ls h =
            let s = h.second in
            let r = s.spelled.second in
            record {
              negative = true;
              first = s.item;
              more = r.more;
              value = sym r.value;
              spelled = joined_to_left (replaced h (replaced s.spelled r.spelled));
            }

        to_no : (x : Expr) (ls : List Lexeme) → Split ATerm (Rest false) x ls → ASum x ls
        to_no x ls s =
            let r = s.spelled.second in
            record {
              negative = false;
              first = s.item;
              more = r.more;
              value = sym r.value;
              spelled = joined_to_left (from_nothing (replaced s.spelled r.spelled));
            }

        which : (x : Expr) (ls : List Lexeme) → ASum x ls → (one (Sign 45) ▸ Split ATerm (Rest true) x) ls ⊎ Split ATerm (Rest false) x ls
        which x ls u = by u.negative u.value (joined_to_right u.spelled)
          where
            by : (negative : Bool) → x ≡ sum_of negative u.first u.more → (optional (Sign 45) negative ▸ (ATerm u.first ▸ Terms u.more)) ls →
                (one (Sign 45) ▸ Split ATerm (Rest true) x) ls ⊎ Split ATerm (Rest false) x ls
            by true value k =
                inl (replaced k (record {
                  item = u.first;
                  spelled = replaced k.second (record { more = u.more; value = sym value; spelled = k.second.second });
                }))
            by false value k =
                let j = nothing_joined k in
                inr (record { item = u.first; spelled = replaced j (record { more = u.more; value = sym value; spelled = j.second }) })

  -- ---- parentheses

  inside_rule : (depth : ℕ) → Enclosed bad (nested names operators depth) (IsNested names operators depth) →
      Rule bad any (sum names operators (nested names operators depth) >>= (λ inner. expect 41 >> pure inner))
      (λ x. IsSum names operators (IsNested names operators depth) x ▸ one (Sign 41)) anywhere
  inside_rule depth enclosed =
      reads_before (λ x. x) (sum_rule (nested names operators depth) (IsNested names operators depth) enclosed)
      (λ x. ends_by (sign_rule 41) x (tt, refl) (λ y known. sym known.1))
      (λ x back rest u a. subst (λ (ls : List Lexeme). AfterSum (ls ++ rest)) (sym u)
      (record { no_divisor = refl; no_power = refl; no_factor = refl; no_plus = refl; no_minus = refl }))

  nested_enclosed : (depth : ℕ) → Enclosed bad (nested names operators depth) (IsNested names operators depth)
  unfolding nested IsNested
  nested_enclosed zero = record {
    sound = λ i j x is_open h. cc;
    whole = λ x i used rest here h u after. absurd u;
    opens = λ x ls u. absurd u;
  }
  nested_enclosed (suc depth) =
      let inside = inside_rule depth (nested_enclosed depth) in
      record {
        sound = λ i j x is_open h.
            let open_sign = at_once (taken (Sign 40) i refl (shown-symbol i (symbol.Sign 40) is_open)) in
            Read-mapped (λ ls k. joined_to_left k) (Read-joined i (next i) j open_sign (inside.sound (next i) j x h).1);
        whole = λ x. Takes-to_right bad (Takes-next bad (Takes-skip bad (Sign 40) refl) (inside.whole x tt));
        opens = λ x ls u. let k = joined_to_right u in (k.back, k.parts ∙ ap (λ xs. xs ++ k.back) k.first);
      }

  pub expression_rule : Rule bad any (expression names operators) (IsExpression names operators) AfterSum
  expression_rule = sum_rule (nested names operators 64) (IsNested names operators 64) (nested_enclosed 64)
