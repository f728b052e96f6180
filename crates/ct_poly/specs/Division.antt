-- Exact division of polynomials, as a checked loop on leading terms (this project's own rules of overflow).
--     whole_over c d          the whole number that times d is c, or none
--     term_over e d           the same of terms: both monomials and coefficients divide
--     Dividing                a state: what is left of the dividend, and the sum of the terms found so far
--     next_term f s           the leading term of the rest over that of f; none where the rest is zero, or it does not divide
--     step_rules, step_overflow f u s     the kind of the first rule that one more term u breaks, or none
--     checked_step f u s      the rest loses u times f, and the quotient gains u
--     division_from f s, division_turn f s      all further steps; the next one and all behind it
--     checked_quotient p f    all steps: the quotient where nothing is left at the end, or none
--     quotient p f            the same, where a division that overflows counts as none
-- Some(q) has q·f = p, and none says that no polynomial times f is p: laws `checked_quotient_is`, `checked_quotient_none`
-- and `quotient_is`, in the lemmas on division. A divisor that is zero divides zero alone. The steps go on as long as there is
-- a next term, and what is left falls in each: `DivisionLaws`.
use Rattle.std.specs.Prelude.{ℕ, suc, zero, ◌+◌, ◌*◌, ℤ, unsigned_abs, cond, ltb, Ok, Err, None, Some, int_div, int_rem}
use Rattle.std.proofs.Common.{Option}
use Rattle.ct_algebra.specs.Leading.{leading}
use Rattle.ct_algebra.specs.Monomial.{Mono}
use Rattle.ct_algebra.specs.Polynomial.{Polynomial, polys, plus, times, count, norm}
use Rattle.ct_algebra.specs.Substitution.{term}
use Rattle.ct_algebra.specs.WholeNumbers.{int_is_zero}
use Rattle.ct_checked.specs.Checked.{Checked, verdict, ◌>>=◌}
use Rattle.ct_mono.specs.Division.{over}
use Rattle.ct_checked.specs.Limits.{most_terms, largest_norm}
use Rattle.ct_checked.specs.Loop.{run, turn}
use Rattle.ct_mono.specs.Rank.{mono_rank}
use Rattle.ct_checked.specs.declared.fault.Kind.{Kind}
use Rattle.ct_checked.specs.declared.fault.Kind.TheVariants.{Terms, Number}
use Rattle.ct_poly.specs.Measures.{minus, broken}

-- ---- terms

-- the quotient of whole numbers, where no remainder is left
unfoldable pub whole_over : ℤ → ℤ → Option ℤ
whole_over c d = cond (int_is_zero (int_rem c d)) (Some (int_div c d)) None

-- both quotients, where there are both
abbrev pub both_over : Option Mono → Option ℤ → Option (Mono × ℤ)
both_over (Some t) (Some q) = Some (t, q)
both_over (Some t) None = None
both_over None o = None

abbrev pub term_over : Mono × ℤ → Mono × ℤ → Option (Mono × ℤ)
term_over e d = both_over (over e.0 d.0) (whole_over e.1 d.1)

-- ---- one step

pub record Dividing : Type 0 where
  pub rest : Polynomial
  pub quotient : Polynomial

abbrev pub leading_over : Option (Mono × ℤ) → Option (Mono × ℤ) → Option (Mono × ℤ)
leading_over (Some e) (Some d) = term_over e d
leading_over (Some e) None = None
leading_over None o = None

unfoldable pub next_term : Polynomial → Dividing → Option (Mono × ℤ)
next_term f s = leading_over (leading s.rest.terms) (leading f.terms)

-- the rules, from the counts and norms of the rest, of f and of the quotient so far, and the size of the coefficient of u
abbrev pub step_rules : (rest_count rest_norm by_count by_norm quotient_count quotient_norm size : ℕ) → Option Kind
step_rules rest_count rest_norm by_count by_norm quotient_count quotient_norm size =
    broken (ltb most_terms (rest_count + by_count)) Terms
    (broken (ltb most_terms (quotient_count + 1)) Terms
    (broken (ltb largest_norm (size * by_norm)) Number
    (broken (ltb largest_norm (rest_norm + size * by_norm)) Number
    (broken (ltb largest_norm (quotient_norm + size)) Number None))))

unfoldable pub step_overflow : Polynomial → Mono × ℤ → Dividing → Option Kind
step_overflow f u s =
    step_rules (count s.rest) (norm s.rest) (count f) (norm f) (count s.quotient) (norm s.quotient) (unsigned_abs u.1)

-- the rest without u times f, and the quotient with u
unfoldable pub step_of : Polynomial → Mono × ℤ → Dividing → Dividing
step_of f u s = record { rest = minus s.rest (times (term u.0 u.1) f); quotient = plus s.quotient (term u.0 u.1) }

unfoldable pub checked_step : Polynomial → Mono × ℤ → Dividing → Checked Dividing
checked_step f u s = verdict (step_overflow f u s) (step_of f u s)

-- ---- all steps

-- it falls in each step, since the leading monomial does
abbrev pub leading_rank : Option (Mono × ℤ) → ℕ
leading_rank None = zero
leading_rank (Some e) = suc (mono_rank e.0)

unfoldable pub dividing_rank : Dividing → ℕ
dividing_rank s = leading_rank (leading s.rest.terms)

abbrev pub division_from : Polynomial → Dividing → Checked Dividing
division_from f s = run dividing_rank (next_term f) (checked_step f) s

-- the same with its next turn laid open
abbrev pub division_turn : Polynomial → Dividing → Checked Dividing
division_turn f s = turn dividing_rank (next_term f) (checked_step f) (division_from f) s (next_term f s)

-- nothing is done yet
abbrev pub whole_dividend : Polynomial → Dividing
whole_dividend p = record { rest = p; quotient = polys.zero }

-- the quotient, where nothing is left
unfoldable pub found_quotient : Dividing → Option Polynomial
found_quotient s = cond (polys.is_zero s.rest) (Some s.quotient) None

unfoldable pub checked_quotient : Polynomial → Polynomial → Checked (Option Polynomial)
checked_quotient p f = division_from f (whole_dividend p) >>= (λ s. Ok (found_quotient s))

-- an overflow is no quotient
abbrev pub value_or_none : Checked (Option Polynomial) → Option Polynomial
value_or_none (Ok o) = o
value_or_none (Err kind) = None

unfoldable pub quotient : Polynomial → Polynomial → Option Polynomial
quotient p f = value_or_none (checked_quotient p f)
