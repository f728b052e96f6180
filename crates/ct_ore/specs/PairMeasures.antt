-- The measures of all pairs of two lists of coefficient terms: how many terms they make, or how large these are.
--     name_measure w t k e    of k symbols of a name and its power e
--     pair_measure a w s t    of a pair;  measure_of_pairs a w ps qs  of all pairs
--     names_measure a w m n   of symbols m and names n;  term_measure a w m t  the same for a term
--     symbols_measure a w m   of symbols m and all terms of a list;  coefficient_measure w c  of a coefficient by itself
-- With w the weight is taken, and else the count.
use Rattle.std.specs.Prelude.{ℕ, ◌*◌, ◌<◌, nat_abs, Bool, cond, List, [], ◌∷◌, length, sum_by}
use Rattle.ct_algebra.specs.Monomial.{Mono, exp}
use Rattle.ct_algebra.specs.Names.{Name, place}
use Rattle.ct_algebra.specs.Polynomial.{Polynomial, norm}
use Rattle.ct_algebra.specs.Actions.{Action}
use Rattle.ct_ore.specs.declared.coefficient_term.CoefficientTerm.{CoefficientTerm}
use Rattle.ct_ore.specs.AllNames.{over_names}
use Rattle.ct_ore.specs.Kinds.{how_many, weight}
use Rattle.ct_ore.specs.Measures.{count_of_pair, weight_of_pair}

abbrev pub name_measure : Bool → Action → ℕ → ℕ → ℕ
name_measure w t k e = cond w (weight t k e) (how_many t k e)

abbrev pub HasNumbers : List CoefficientTerm → Type 0
HasNumbers [] = Unit {0}
HasNumbers (t ∷ ts) = (0 < nat_abs t.number) × HasNumbers ts

module _ (a : Name → Action) (w : Bool) where
  abbrev pub pair_measure : CoefficientTerm → CoefficientTerm → ℕ
  pair_measure s t =
      cond w (nat_abs s.number * nat_abs t.number * weight_of_pair a s.symbols t.names) (count_of_pair a s.symbols t.names)

  abbrev pub measure_of_row : CoefficientTerm → List CoefficientTerm → ℕ
  measure_of_row s qs = sum_by (λ t. pair_measure s t) qs

  abbrev pub measure_of_pairs : List CoefficientTerm → List CoefficientTerm → ℕ
  measure_of_pairs ps qs = sum_by (λ s. measure_of_row s qs) ps

  abbrev pub names_measure : Mono → Mono → ℕ
  names_measure m n = over_names (λ i. name_measure w (a i) (exp m (place i)) (exp n (place i)))

  abbrev pub term_measure : Mono → CoefficientTerm → ℕ
  term_measure m t = cond w (nat_abs t.number * names_measure m t.names) (names_measure m t.names)

  abbrev pub symbols_measure : Mono → List CoefficientTerm → ℕ
  symbols_measure m qs = sum_by (λ t. term_measure m t) qs

abbrev pub coefficient_measure : Bool → Polynomial → ℕ
coefficient_measure w c = cond w (norm c) (length c.terms)
