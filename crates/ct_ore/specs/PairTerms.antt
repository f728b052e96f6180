-- The coefficient terms that products make, before any are gathered.
--     listed n f             f 0 .. f (n - 1)
--     raised t i k ts        the terms that k symbols of the name with the place i make of each term of ts
--     expanded a m ts        the same for a product of symbols m, name after name, the last name first
--     times_term n x t       the number x and the names n times t;  multiplied n x ts  times each term of ts
--     product_terms a es ts  the terms of coefficients es times what their symbols make of ts
-- What symbols make of a power is said kind by kind in Kinds.
use Rattle.std.specs.Prelude.{ℕ, zero, suc, ◌+◌, ◌-◌, ℤ, pos, ◌*ℤ◌, List, [], ◌∷◌, ◌++◌, map, flat_map}
use Rattle.ct_algebra.specs.Monomial.{Mono, exp, ◌·◌}
use Rattle.ct_algebra.specs.Names.{Name, name_with}
use Rattle.ct_algebra.specs.Actions.{Action}
use Rattle.ct_algebra.specs.Polynomial.{Polynomial}
use Rattle.ct_mono.specs.Exponents.{with_exponent}
use Rattle.ct_ore.specs.declared.coefficient_term.CoefficientTerm.{CoefficientTerm}
use Rattle.ct_ore.specs.AllNames.{number_of_names}
use Rattle.ct_ore.specs.Kinds.{how_many, ways, symbols_left}

abbrev pub listed : {X : Type 0} → ℕ → (ℕ → X) → List X
listed zero f = []
listed (suc n) f = listed n f ++ f n ∷ []

-- ---- what symbols of one name make of a term

-- a term with the power e of a name, s more of its symbols, and its number taken w times
abbrev pub moved_term : ℕ → ℕ → ℕ → ℕ → CoefficientTerm → CoefficientTerm
moved_term i e s w u = record {
  symbols = with_exponent i (exp u.symbols i + s) u.symbols;
  names = with_exponent i e u.names;
  number = u.number *ℤ pos w;
}

-- the one that lowers the power by j
abbrev pub lowered_term : Action → ℕ → ℕ → CoefficientTerm → ℕ → CoefficientTerm
lowered_term t i k u j =
    moved_term i (exp u.names i - j) (symbols_left t k j) (ways t k (exp u.names i) j) u

abbrev pub raised_term : Action → ℕ → ℕ → CoefficientTerm → List CoefficientTerm
raised_term t i k u = listed (how_many t k (exp u.names i)) (lowered_term t i k u)

abbrev pub raised : Action → ℕ → ℕ → List CoefficientTerm → List CoefficientTerm
raised t i k ts = flat_map (raised_term t i k) ts

-- ---- products

abbrev pub times_term : Mono → ℤ → CoefficientTerm → CoefficientTerm
times_term n x t = record { symbols = t.symbols; names = n · t.names; number = x *ℤ t.number }

abbrev pub multiplied : Mono → ℤ → List CoefficientTerm → List CoefficientTerm
multiplied n x ts = map (λ t. times_term n x t) ts

abbrev pub multiplied_by : List (Mono × ℤ) → List CoefficientTerm → List CoefficientTerm
multiplied_by us ts = flat_map (λ u. multiplied u.0 u.1 ts) us

module _ (a : Name → Action) where
  -- the symbols of the names below n
  abbrev pub expanded_below : ℕ → Mono → List CoefficientTerm → List CoefficientTerm
  expanded_below zero m ts = ts
  expanded_below (suc n) m ts = expanded_below n m (raised (a (name_with n)) n (exp m n) ts)

  unfoldable pub expanded : Mono → List CoefficientTerm → List CoefficientTerm
  expanded m ts = expanded_below number_of_names m ts

  abbrev pub product_terms : List (Mono × Polynomial) → List CoefficientTerm → List CoefficientTerm
  product_terms es ts = flat_map (λ e. multiplied_by e.1.terms (expanded e.0 ts)) es
