-- Polynomials, operators and fractions as text (this project's own).
--     powers_in is_symbol n m     the powers in m of the first n names, in order, or of their symbols, but those that are 1
--     power_text names p          `x`, `x^2`, `S[x]`, `D[x]^2`
--     term_text names c ps        the absolute value of c and the powers, joined by `*`; 1 is left out before a power
--     sign_text is_first neg      `-` directly before the first term; ` + ` or ` - ` before a later one
--     polynomial_text names p     the terms falling; zero is `0`
--     operator_text names p       the same of an operator: a coefficient of one term is written as in a polynomial, before the
--                                 symbols, and one of several terms stands in parentheses; without symbols, the
--                                 coefficient's terms are terms of the sum
--     monomial_text names m       the powers of symbols, or `1`
--     fraction_text names w       the numerator; `(N)/(D)` over a denominator that is not 1, D being the whole number, unless it is 1,
--                                 and each factor as `(f)` or `(f)^e`, joined by `*`
use Rattle.std.specs.Prelude.{ℕ, zero, suc, ◌==◌, ◌&&◌, Bool, true, false, if◌then◌else◌, ℤ, pos, negsuc, unsigned_abs, List, [], ◌∷◌, ◌++◌, length, get_or, flat_map, codes, decimal}
use Rattle.ct_algebra.specs.Monomial.{Mono, exp}
use Rattle.ct_algebra.specs.Polynomial.{Polynomial}
use Rattle.ct_algebra.specs.Actions as actions
use Rattle.ct_algebra.specs.Operators.{Operator}
use Rattle.ct_frac.specs.declared.factor.Factor.{Factor}
use Rattle.ct_frac.specs.Written.{Denominator, Written}
use Rattle.ct_ore.specs.Naming.{Naming}
use Rattle.ct_ore.specs.declared.algebra.Role.TheVariants.{Param}
use Rattle.ct_answer.specs.declared.factors.Power.{Power}

-- ---- powers

-- the power of the name k, or of its symbol, where it isn't 1
abbrev pub power_at : Bool → ℕ → ℕ → List Power
power_at is_symbol k zero = []
power_at is_symbol k (suc e) = record { is_symbol = is_symbol; name = k; exponent = suc e } ∷ []

abbrev pub powers_in : Bool → ℕ → Mono → List Power
powers_in is_symbol zero m = []
powers_in is_symbol (suc n) m = powers_in is_symbol n m ++ power_at is_symbol n (exp m n)

-- the name with a number; past the list, one without letters
abbrev pub naming_at : List Naming → ℕ → Naming
naming_at names k = get_or names k (record { text = []; action = actions.Still; role = Param })

-- a shift is written S, a derivation D
abbrev pub letter : actions.Action → List ℕ
letter a = actions.by_action a (codes "S") (codes "D") []

abbrev pub name_text : Naming → List ℕ
name_text n = n.text

abbrev pub symbol_text : Naming → List ℕ
symbol_text n = letter n.action ++ 91 ∷ n.text ++ 93 ∷ []

abbrev pub base_text : List Naming → Power → List ℕ
base_text names p = if p.is_symbol then symbol_text (naming_at names p.name) else name_text (naming_at names p.name)

abbrev pub exponent_text : ℕ → List ℕ
exponent_text e = if e == 1 then [] else 94 ∷ decimal e

unfoldable pub power_text : List Naming → Power → List ℕ
power_text names p = base_text names p ++ exponent_text p.exponent

-- powers with `*` before each
abbrev pub later_powers : List Naming → List Power → List ℕ
later_powers names ps = flat_map (λ p. 42 ∷ power_text names p) ps

-- powers with `*` between them
abbrev pub powers_text : List Naming → List Power → List ℕ
powers_text names [] = []
powers_text names (p ∷ ps) = power_text names p ++ later_powers names ps

abbrev pub powers_or_one : List Naming → List Power → List ℕ
powers_or_one names [] = codes "1"
powers_or_one names (p ∷ ps) = powers_text names (p ∷ ps)

-- ---- terms

unfoldable pub term_text : List Naming → ℤ → List Power → List ℕ
term_text names c [] = decimal (unsigned_abs c)
term_text names c (p ∷ ps) =
    if unsigned_abs c == 1 then powers_text names (p ∷ ps) else decimal (unsigned_abs c) ++ later_powers names (p ∷ ps)

abbrev pub is_negative : ℤ → Bool
is_negative (pos n) = false
is_negative (negsuc n) = true

unfoldable pub sign_text : Bool → Bool → List ℕ
sign_text true negative = if negative then codes "-" else []
sign_text false negative = if negative then codes " - " else codes " + "

unfoldable pub signed_term : List Naming → Bool → ℤ → List Power → List ℕ
signed_term names is_first c ps = sign_text is_first (is_negative c) ++ term_text names c ps

-- ---- polynomials

-- the powers of the names in a monomial
abbrev pub names_in : Mono → List Power
names_in m = powers_in false 6 m

abbrev pub entry_text : List Naming → Bool → Mono × ℤ → List ℕ
entry_text names is_first e = signed_term names is_first e.1 (names_in e.0)

unfoldable pub entries_text : List Naming → Bool → List (Mono × ℤ) → List ℕ
entries_text names is_first [] = []
entries_text names is_first (e ∷ es) = entry_text names is_first e ++ flat_map (entry_text names false) es

unfoldable pub polynomial_text : List Naming → Polynomial → List ℕ
polynomial_text names p = if length p.terms == 0 then codes "0" else entries_text names true p.terms

-- ---- operators

-- the powers of the symbols in a monomial
abbrev pub symbols_in : Mono → List Power
symbols_in m = powers_in true 6 m

-- a coefficient in parentheses, before the symbols
abbrev pub parenthesized : List Naming → Bool → List (Mono × ℤ) → List Power → List ℕ
parenthesized names is_first es symbols =
    sign_text is_first false ++ codes "(" ++ entries_text names true es ++ codes ")" ++ later_powers names symbols

abbrev pub before_symbols : List Naming → Bool → List (Mono × ℤ) → List Power → List ℕ
before_symbols names is_first (e ∷ []) symbols = signed_term names is_first e.1 (names_in e.0 ++ symbols)
before_symbols names is_first es symbols = parenthesized names is_first es symbols

unfoldable pub product_text : List Naming → Bool → List (Mono × ℤ) → List Power → List ℕ
product_text names is_first es [] = entries_text names is_first es
product_text names is_first es (p ∷ ps) = before_symbols names is_first es (p ∷ ps)

abbrev pub operator_entry_text : List Naming → Bool → Mono × Polynomial → List ℕ
operator_entry_text names is_first e = product_text names is_first e.1.terms (symbols_in e.0)

abbrev pub operator_entries_text : List Naming → List (Mono × Polynomial) → List ℕ
operator_entries_text names [] = codes "0"
operator_entries_text names (e ∷ es) = operator_entry_text names true e ++ flat_map (operator_entry_text names false) es

unfoldable pub operator_text : List Naming → Operator → List ℕ
operator_text names p = operator_entries_text names p.terms

abbrev pub monomial_text : List Naming → Mono → List ℕ
monomial_text names m = powers_or_one names (symbols_in m)

-- ---- fractions

unfoldable pub factor_text : List Naming → Factor → List ℕ
factor_text names f = codes "(" ++ polynomial_text names f.poly ++ codes ")" ++ exponent_text f.exp

-- factors with `*` before each
abbrev pub later_factors : List Naming → List Factor → List ℕ
later_factors names fs = flat_map (λ f. 42 ∷ factor_text names f) fs

-- factors with `*` between them
abbrev pub factors_text : List Naming → List Factor → List ℕ
factors_text names [] = []
factors_text names (f ∷ fs) = factor_text names f ++ later_factors names fs

unfoldable pub denominator_text : List Naming → Denominator → List ℕ
denominator_text names d =
    if d.whole == 1 then factors_text names d.factors else decimal d.whole ++ later_factors names d.factors

abbrev pub over_text : List Naming → Written → List ℕ
over_text names w =
    codes "(" ++ polynomial_text names w.numerator ++ codes ")/(" ++ denominator_text names w.den ++ codes ")"

unfoldable pub fraction_text : List Naming → Written → List ℕ
fraction_text names w =
    if w.den.whole == 1 && length w.den.factors == 0 then polynomial_text names w.numerator else over_text names w
