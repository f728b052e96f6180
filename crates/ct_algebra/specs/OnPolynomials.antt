-- What operators make of polynomials: a shift's symbol makes p(x + 1) of p(x), and a derivation's the derivative.
--     by_symbol a i p      what the symbol of the name i makes of p
--     on_polynomials a     the polynomials as a module of the operators under the actions a
--     made_of a p f        what the operator p makes of f
-- The symbol of a name without an operator makes zero of everything; operators of a problem have no such symbol.
use Rattle.std.specs.Prelude.{◌≡◌}
use Rattle.std.proofs.Common.{sym, ◌∙◌, ap}
use Rattle.ct_algebra.specs.Ring.{add_mul, one_mul, zero_mul}
use Rattle.ct_algebra.specs.Names.{Name}
use Rattle.ct_algebra.specs.Polynomial.{Polynomial, polys}
use Rattle.ct_algebra.specs.Actions.{Action, Shift, Derive, Still, by_action, sigma_by, delta_by, sigma_by-sum, sigma_by-product, sigma_by-sigma_by, sigma_by-delta_by, delta_by-sum, delta_by-product, delta_by-delta_by, polynomials}
use Rattle.ct_algebra.specs.Ore.{Module}
use Rattle.ct_algebra.specs.Operators.{Operator, apply}

-- σ of a shift, and δ of any other
abbrev pub symbol_by : Action → Name → Polynomial → Polynomial
symbol_by t i p = by_action t (sigma_by t i p) (delta_by t i p) (delta_by t i p)

-- ---- laws, and the module that rests on them

pub symbol_by-sum :
    (t : Action) (i : Name) (p q : Polynomial) →
    symbol_by t i (polys.◌+◌ p q) ≡ polys.◌+◌ (symbol_by t i p) (symbol_by t i q)
symbol_by-sum Shift i p q = sigma_by-sum Shift i p q
symbol_by-sum Derive i p q = delta_by-sum Derive i p q
symbol_by-sum Still i p q = delta_by-sum Still i p q

pub symbol_by-product :
    (t : Action) (i : Name) (c p : Polynomial) →
    symbol_by t i (polys.◌*◌ c p) ≡
    polys.◌+◌ (polys.◌*◌ (sigma_by t i c) (symbol_by t i p)) (polys.◌*◌ (delta_by t i c) p)
symbol_by-product Shift i c p =
    sigma_by-product Shift i c p
    ∙ sym (ap (polys.◌+◌ (polys.◌*◌ (sigma_by Shift i c) (sigma_by Shift i p))) (zero_mul polys p) ∙ polys.add_zero _)
symbol_by-product Derive i c p = delta_by-product Derive i c p
symbol_by-product Still i c p = delta_by-product Still i c p

pub symbol_by-symbol_by :
    (t u : Action) (i j : Name) (p : Polynomial) → symbol_by t i (symbol_by u j p) ≡ symbol_by u j (symbol_by t i p)
symbol_by-symbol_by Shift Shift i j p = sigma_by-sigma_by Shift Shift i j p
symbol_by-symbol_by Shift Derive i j p = sigma_by-delta_by Shift Derive i j p
symbol_by-symbol_by Shift Still i j p = sigma_by-delta_by Shift Still i j p
symbol_by-symbol_by Derive Shift i j p = sym (sigma_by-delta_by Shift Derive j i p)
symbol_by-symbol_by Derive Derive i j p = delta_by-delta_by Derive Derive i j p
symbol_by-symbol_by Derive Still i j p = delta_by-delta_by Derive Still i j p
symbol_by-symbol_by Still Shift i j p = sym (sigma_by-delta_by Shift Still j i p)
symbol_by-symbol_by Still Derive i j p = delta_by-delta_by Still Derive i j p
symbol_by-symbol_by Still Still i j p = delta_by-delta_by Still Still i j p

module _ (a : Name → Action) where
  abbrev pub by_symbol : Name → Polynomial → Polynomial
  by_symbol i p = symbol_by (a i) i p

  abbrev pub on_polynomials : Module polys (polynomials a) Polynomial
  on_polynomials = record {
    group = polys.group;
    scale = polys.◌*◌;
    D = by_symbol;
    scale_value = λ b c p. add_mul polys b c p;
    scale_sum = polys.mul_add;
    scale_mul = polys.mul_assoc;
    scale_one = λ p. one_mul polys p;
    D_sum = λ i p q. symbol_by-sum (a i) i p q;
    D_scale = λ i c p. symbol_by-product (a i) i c p;
    D_D = λ i j p. symbol_by-symbol_by (a i) (a j) i j p;
  }

  abbrev pub made_of : Operator → Polynomial → Polynomial
  made_of p f = apply a on_polynomials p f
