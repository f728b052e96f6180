-- The texts of polynomials are spelled by the grammar. Main lemma `Writes-polynomial`.
--     EntryFits     numbers, exponents and names are as the grammar wants them
--     Sum ts        the lexemes of the sum of these terms, the first of which may have a `-`
use Rattle.ct_answer.proofs.Base.{◌≡◌, ℕ, suc, ◌≤◌, ◌==◌, Bool, true, false, cond, ℤ, pos, List, [], ◌∷◌, ◌++◌, length, refl, arith, codes, ne_eqb}
use Rattle.ct_answer.proofs.Base.{flat_map, unsigned_abs, Mono, Polynomial, largest_norm, Naming, IsAlgebra, Expr, declared, Texts, nothing, one}
use Rattle.ct_answer.proofs.Base.{optional, number, ◌▸◌, each, Term, product_of, IsMoreTerm, IsSum, joined_to_right, joined_nothing, nothing_joined}
use Rattle.ct_answer.proofs.Base.{to_nothing, Each}
use Rattle.ct_problem.specs.Lexemes.{Lexeme}
use Rattle.ct_problem.specs.Signs.{plus, minus}
use Rattle.ct_answer.specs.declared.factors.Power.{Power}
use Rattle.ct_answer.specs.Text.{sign_text, is_negative, signed_term, entry_text, entries_text, polynomial_text, names_in, term_text}
use Rattle.ct_answer.proofs.ReadTexts.{Writes, Writes-joined, Writes-as, Writes-behind, Writes-before, Writes-nothing, Writes-sign, Writes-blank}
use Rattle.ct_answer.proofs.PrintedExpressions.{term_expression, signed_expression, sum_expression, entry_expression, entry_expressions}
use Rattle.ct_answer.proofs.PrintedExpressions.{polynomial_expression}
use Rattle.ct_answer.proofs.SpelledPowers.{PowerFits, plus_is_plain, minus_is_plain, ATerm, Writes-term, Writes-number_alone}
use Rattle.std.specs.Fmt as fmt
use Rattle.ct_expr.specs.declared.expr.Expr.TheVariants as e
use Rattle.ct_problem.specs.Lexemes as lexeme

-- ---- lists of lists

-- a list of each value of two lists
pub each-append : {X : Type 0} (a : X → Texts) (xs ys : List X) (ls : List Lexeme) → (each a xs ▸ each a ys) ls → each a (xs ++ ys) ls
each-append a [] ys ls h = nothing_joined h
each-append a (x ∷ xs) ys ls h =
    let parts = joined_to_right h in
    record { front = parts.front; back = parts.back; parts = parts.parts; first = parts.first; second = each-append a xs ys parts.back parts.second }

-- ---- signs

-- a sign between blanks
Writes-between : (s : ℕ) → Writes true false (s ∷ []) (one (lexeme.Sign s)) → Writes true false (32 ∷ s ∷ 32 ∷ []) (one (lexeme.Sign s))
Writes-between s sign =
    let first = Writes-joined true true false (32 ∷ []) (s ∷ []) nothing (one (lexeme.Sign s))
    (Writes-before true (32 ∷ []) nothing Writes-blank) sign in
    let all = Writes-joined true true false (32 ∷ s ∷ []) (32 ∷ []) (nothing ▸ one (lexeme.Sign s)) nothing
    (Writes-before true (32 ∷ s ∷ []) _ first) Writes-blank in
    Writes-as true false (32 ∷ s ∷ 32 ∷ []) (nothing ▸ one (lexeme.Sign s) ▸ nothing) (one (lexeme.Sign s))
    (λ ls h. nothing_joined (joined_nothing h)) all

abbrev pub sign_of : Bool → ℕ
sign_of negative = cond negative minus plus

pub Writes-later_sign : (negative : Bool) → Writes true false (sign_text false negative) (one (lexeme.Sign (sign_of negative)))
unfolding sign_text
Writes-later_sign true = Writes-between 45 (Writes-sign 45 minus_is_plain)
Writes-later_sign false = Writes-between 43 (Writes-sign 43 plus_is_plain)

pub Writes-first_sign : (negative : Bool) → Writes false false (sign_text true negative) (optional (lexeme.Sign minus) negative)
unfolding sign_text
Writes-first_sign true = Writes-behind false (45 ∷ []) _ (Writes-sign 45 minus_is_plain)
Writes-first_sign false = Writes-nothing false

-- ---- terms with their signs

pub record EntryFits (names : List Naming) (operators : Bool) (e : Mono × ℤ) : Type 0 where
  pub small : unsigned_abs e.1 ≤ largest_norm
  pub powers : Each (PowerFits names operators) (names_in e.0)

module _ (names : List Naming) (known : IsAlgebra names) (operators : Bool) where
  module _ (InParentheses : Expr → Texts) where
    abbrev pub MoreTerm : Term → Texts
    MoreTerm = IsMoreTerm (declared names) operators InParentheses

    abbrev pub First : Term → Texts
    First t = optional (lexeme.Sign minus) t.0 ▸ ATerm names known operators InParentheses t.1

    -- a sum of these terms
    abbrev pub Sum : List Term → Texts
    Sum [] ls = ⊥
    Sum (t ∷ ts) ls = (First t ▸ each MoreTerm ts) ls

    pub Writes-first_term : (c : ℤ) (ps : List Power) → unsigned_abs c ≤ largest_norm → Each (PowerFits names operators) ps →
        Writes false true (signed_term names true c ps) (First (signed_expression c ps))
    unfolding signed_term
    Writes-first_term c ps small fits =
        Writes-joined false false true (sign_text true (is_negative c)) (term_text names c ps) (optional (lexeme.Sign minus) (is_negative c))
        (ATerm names known operators InParentheses (term_expression (unsigned_abs c) ps))
        (Writes-first_sign (is_negative c)) (Writes-term names known operators InParentheses c ps small fits)

    pub Writes-more_term : (c : ℤ) (ps : List Power) → unsigned_abs c ≤ largest_norm → Each (PowerFits names operators) ps →
        Writes true true (signed_term names false c ps) (MoreTerm (signed_expression c ps))
    unfolding signed_term
    Writes-more_term c ps small fits =
        Writes-joined true false true (sign_text false (is_negative c)) (term_text names c ps) (one (lexeme.Sign (sign_of (is_negative c))))
        (ATerm names known operators InParentheses (term_expression (unsigned_abs c) ps))
        (Writes-later_sign (is_negative c)) (Writes-term names known operators InParentheses c ps small fits)

    -- ---- polynomials

    Writes-more_entries : (es : List (Mono × ℤ)) → Each (EntryFits names operators) es →
        Writes true true (flat_map (entry_text names false) es) (each MoreTerm (entry_expressions es))
    Writes-more_entries [] fits = Writes-nothing true
    Writes-more_entries (e ∷ es) fits =
        Writes-joined true true true (entry_text names false e) (flat_map (entry_text names false) es) (MoreTerm (entry_expression e))
        (each MoreTerm (entry_expressions es))
        (Writes-more_term e.1 (names_in e.0) fits.0.small fits.0.powers) (Writes-more_entries es fits.1)

    pub Writes-first_entries : (e : Mono × ℤ) (es : List (Mono × ℤ)) → Each (EntryFits names operators) (e ∷ es) →
        Writes false true (entries_text names true (e ∷ es)) (Sum (entry_expressions (e ∷ es)))
    unfolding entries_text
    Writes-first_entries e es fits =
        Writes-joined false true true (entry_text names true e) (flat_map (entry_text names false) es) (First (entry_expression e))
        (each MoreTerm (entry_expressions es))
        (Writes-first_term e.1 (names_in e.0) fits.0.small fits.0.powers) (Writes-more_entries es fits.1)

    pub Writes-later_entries : (es : List (Mono × ℤ)) → Each (EntryFits names operators) es →
        Writes true true (entries_text names false es) (each MoreTerm (entry_expressions es))
    unfolding entries_text
    Writes-later_entries [] fits = Writes-nothing true
    Writes-later_entries (e ∷ es) fits = Writes-more_entries (e ∷ es) fits

    -- a sum of terms is an EXPR
    pub sum_is : (ts : List Term) (ls : List Lexeme) → Sum ts ls → IsSum (declared names) operators InParentheses (sum_expression ts) ls
    sum_is [] ls h = absurd h
    sum_is (t ∷ ts) ls h = record { negative = t.0; first = t.1; more = ts; value = refl; spelled = h }

    pub zero_is : Writes false true (codes "0") (IsSum (declared names) operators InParentheses (e.Whole (pos 0)))
    unfolding fmt.digits product_of
    zero_is =
        Writes-as false true (codes "0") _ _ (λ ls h. record {
          negative = false;
          first = e.Whole (pos 0);
          more = [];
          value = refl;
          spelled =
              to_nothing (record { front = []; back = ls; parts = refl; first = refl; second = h });
        })
        (Writes-number_alone names known operators InParentheses 0 (omega arith))

    pub Writes-polynomial : (p : Polynomial) → Each (EntryFits names operators) p.terms →
        Writes false true (polynomial_text names p) (IsSum (declared names) operators InParentheses (polynomial_expression p))
    unfolding polynomial_text
    Writes-polynomial p fits = by p.terms fits
      where
        by : (es : List (Mono × ℤ)) → Each (EntryFits names operators) es →
            Writes false true (cond (length es == 0) (codes "0") (entries_text names true es))
            (IsSum (declared names) operators InParentheses (sum_expression (entry_expressions es)))
        by [] fits = zero_is
        by (e ∷ es) fits =
            let some : (suc (length es) == 0) ≡ false = ne_eqb (suc (length es)) 0 (λ none. omega arith) in
            rw some (Writes-as false true _ (Sum (entry_expressions (e ∷ es))) _ (λ ls h. sum_is (entry_expressions (e ∷ es)) ls h)
            (Writes-first_entries e es fits))
