-- How many terms a product makes, and how large they are: main lemmas `product_count-is` and `product_norm-is`, by `count-pairs`
-- and `norm-pairs`, which say that the code's lists of terms have the pairs of the operators.
-- What is done for some of the names, or for one term of the left factor, is no longer and no larger than the whole.
use Rattle.ct_ore.proofs.Base.{◌≡◌, refl, Bool, true, false, ℕ, zero, suc, ◌<◌, ◌+◌, ◌*◌, ◌≤◌, ℤ, ◌*ℤ◌, nat_abs, List, [], ◌∷◌, map, length, sum_by}
use Rattle.ct_ore.proofs.Base.{sym, ◌∙◌, ap, ap₂, arith, mul-zero, unsigned_abs-mul, length-flat_map, sum_by-cons, Mono, exp, ◌·◌, Name, place}
use Rattle.ct_ore.proofs.Base.{place_small, name_with, Polynomial, Action, Operator, with_exponent, exp-with_exponent_other, place-name_with}
use Rattle.ct_ore.specs.AllNames.{number_of_names, over_below, over_names}
use Rattle.ct_ore.specs.declared.coefficient_term.CoefficientTerm.{CoefficientTerm}
use Rattle.ct_ore.specs.CoefficientTerms.{size_of, row_of, all_terms, coefficient_terms}
use Rattle.ct_ore.specs.Measures.{over_terms, product_count, product_norm}
use Rattle.ct_ore.specs.PairMeasures.{pair_measure, measure_of_row, measure_of_pairs}
use Rattle.ct_ore.specs.Kinds.{pair_count, pair_weight}
use Rattle.ct_ore.specs.PairTerms.{raised, expanded_below, expanded, multiplied, multiplied_by, product_terms}
use Rattle.ct_ore.proofs.PairCounts.{sum_by-same, sum_by-flat_map, sum_by-scaled, raised-count, raised-size, length-is, size_of-is, raised-larger}

-- ---- symbols before a list

-- a product over the names before one that changes
kept :
    (g : Name → ℕ → ℕ) (i e n : ℕ) → n ≤ i → i < number_of_names → (m : Mono) →
    over_below n (λ j. g j (exp (with_exponent i e m) (place j))) ≡ over_below n (λ j. g j (exp m (place j)))
kept g i e zero before small m = refl
kept g i e (suc n) before small m =
    ap₂ ◌*◌ (kept g i e n (omega arith) small m)
    (ap (g (name_with n)) (exp-with_exponent_other i e m (place (name_with n)) (place_small (name_with n))
    (λ same. absurd (omega (arith, same, place-name_with n (omega arith))))))

module _ (a : Name → Action) (m : Mono) where
  abbrev counts : Name → ℕ → ℕ
  counts i e = pair_count a i (exp m (place i)) e

  abbrev weights : Name → ℕ → ℕ
  weights i e = pair_weight a i (exp m (place i)) e

  expanded_below-count :
      (n : ℕ) → n ≤ number_of_names → (ts : List CoefficientTerm) →
      length (expanded_below a n m ts) ≡ sum_by (λ t. over_below n (λ i. counts i (exp t.names (place i)))) ts
  expanded_below-count zero within ts = length-is ts
  expanded_below-count (suc n) within ts =
      let here : place (name_with n) ≡ n = place-name_with n (omega arith) in
      expanded_below-count n (omega arith) (raised (a (name_with n)) n (exp m n) ts)
      ∙ raised-count (a (name_with n)) n (exp m n) (λ l. over_below n (λ i. counts i (exp l (place i))))
      (λ e l. kept counts n e n (omega arith) (omega arith) l) ts
      ∙ ap (λ k. sum_by (λ t. over_below n (λ i. counts i (exp t.names (place i))) * pair_count a (name_with n) (exp m k) (exp t.names k)) ts)
      (sym here)

  expanded_below-size :
      (n : ℕ) → n ≤ number_of_names → (ts : List CoefficientTerm) →
      size_of (expanded_below a n m ts) ≡ sum_by (λ t. nat_abs t.number * over_below n (λ i. weights i (exp t.names (place i)))) ts
  expanded_below-size zero within ts = size_of-is ts
  expanded_below-size (suc n) within ts =
      let here : place (name_with n) ≡ n = place-name_with n (omega arith) in
      expanded_below-size n (omega arith) (raised (a (name_with n)) n (exp m n) ts)
      ∙ raised-size (a (name_with n)) n (exp m n) (λ l. over_below n (λ i. weights i (exp l (place i))))
      (λ e l. kept weights n e n (omega arith) (omega arith) l) ts
      ∙ ap (λ k. sum_by (λ t. nat_abs t.number * (over_below n (λ i. weights i (exp t.names (place i))) * pair_weight a (name_with n) (exp m k)
      (exp t.names k))) ts)
      (sym here)

  pub expanded-count :
      (ts : List CoefficientTerm) → length (expanded a m ts) ≡ sum_by (λ t. over_names (λ i. counts i (exp t.names (place i)))) ts
  unfolding expanded
  expanded-count ts = expanded_below-count number_of_names (omega arith) ts

  pub expanded-size :
      (ts : List CoefficientTerm) →
      size_of (expanded a m ts) ≡ sum_by (λ t. nat_abs t.number * over_names (λ i. weights i (exp t.names (place i)))) ts
  unfolding expanded
  expanded-size ts = expanded_below-size number_of_names (omega arith) ts

  -- no name makes a list smaller
  pub expanded_below-larger : (n : ℕ) (ts : List CoefficientTerm) → size_of ts ≤ size_of (expanded_below a n m ts)
  expanded_below-larger zero ts = omega arith
  expanded_below-larger (suc n) ts =
      omega (arith, raised-larger (a (name_with n)) n (exp m n) ts, expanded_below-larger n (raised (a (name_with n)) n (exp m n) ts))

-- ---- a polynomial before a list

pub length-multiplied : (n : Mono) (x : ℤ) (ts : List CoefficientTerm) → length (multiplied n x ts) ≡ length ts
length-multiplied n x [] = refl
length-multiplied n x (t ∷ ts) = ap (λ k. suc k) (length-multiplied n x ts)

pub size_of-multiplied : (n : Mono) (x : ℤ) (ts : List CoefficientTerm) → size_of (multiplied n x ts) ≡ nat_abs x * size_of ts
size_of-multiplied n x [] = sym (mul-zero (nat_abs x))
size_of-multiplied n x (t ∷ ts) =
    sum_by-cons (λ (u : CoefficientTerm). nat_abs u.number)
    (record { symbols = t.symbols; names = n · t.names; number = x *ℤ t.number }) (multiplied n x ts)
    ∙ ap₂ ◌+◌ (unsigned_abs-mul x t.number) (size_of-multiplied n x ts)
    ∙ together (nat_abs x) (nat_abs t.number) (size_of ts)
    ∙ ap (λ k. nat_abs x * k) (sym (sum_by-cons (λ (u : CoefficientTerm). nat_abs u.number) t ts))
  where
    together : (x y z : ℕ) → x * y + x * z ≡ x * (y + z)
    together x y z = omega arith

pub length-multiplied_by : (us : List (Mono × ℤ)) (ts : List CoefficientTerm) → length (multiplied_by us ts) ≡ sum_by (λ u. length ts) us
length-multiplied_by us ts =
    length-flat_map (λ (u : Mono × ℤ). multiplied u.0 u.1 ts) us ∙ sum_by-same _ _ (λ u. length-multiplied u.0 u.1 ts) us

pub size_of-multiplied_by :
    (us : List (Mono × ℤ)) (ts : List CoefficientTerm) → size_of (multiplied_by us ts) ≡ sum_by (λ u. nat_abs u.1 * size_of ts) us
size_of-multiplied_by us ts =
    sum_by-flat_map (λ t. nat_abs t.number) (λ (u : Mono × ℤ). multiplied u.0 u.1 ts) us
    ∙ sum_by-same _ _ (λ u. size_of-multiplied u.0 u.1 ts) us

-- ---- all pairs

sum_by-map : {X Y : Type 0} (f : Y → ℕ) (g : X → Y) (xs : List X) → sum_by f (map g xs) ≡ sum_by (λ x. f (g x)) xs
sum_by-map f g [] = refl
sum_by-map f g (x ∷ xs) =
    sum_by-cons f (g x) (map g xs) ∙ ap (λ n. f (g x) + n) (sum_by-map f g xs) ∙ sym (sum_by-cons (λ x. f (g x)) x xs)

pub sum_by-all_terms :
    (f : CoefficientTerm → ℕ) (es : List (Mono × Polynomial)) →
    sum_by f (all_terms es) ≡ sum_by (λ e. sum_by (λ u. f (record { symbols = e.0; names = u.0; number = u.1 })) e.1.terms) es
sum_by-all_terms f es =
    sum_by-flat_map f (λ (e : Mono × Polynomial). row_of e.0 e.1.terms) es
    ∙ sum_by-same _ _ (λ e. sum_by-map f (λ (u : Mono × ℤ). record { symbols = e.0; names = u.0; number = u.1 }) e.1.terms) es

abbrev pair_term : Mono → Mono → ℤ → CoefficientTerm
pair_term m n x = record { symbols = m; names = n; number = x }

module _ (a : Name → Action) where
  pub product_terms-count :
      (es : List (Mono × Polynomial)) (ts : List CoefficientTerm) →
      length (product_terms a es ts) ≡ measure_of_pairs a false (all_terms es) ts
  product_terms-count es ts =
      length-flat_map (λ (e : Mono × Polynomial). multiplied_by e.1.terms (expanded a e.0 ts)) es
      ∙ sum_by-same _ _ (λ e. length-multiplied_by e.1.terms (expanded a e.0 ts) ∙ sum_by-same _ _ (λ u. expanded-count a e.0 ts) e.1.terms) es
      ∙ sym (sum_by-all_terms (λ s. measure_of_row a false s ts) es)

  pub product_terms-size :
      (es : List (Mono × Polynomial)) (ts : List CoefficientTerm) →
      size_of (product_terms a es ts) ≡ measure_of_pairs a true (all_terms es) ts
  product_terms-size es ts =
      sum_by-flat_map (λ t. nat_abs t.number) (λ (e : Mono × Polynomial). multiplied_by e.1.terms (expanded a e.0 ts)) es
      ∙ sum_by-same _ _ (λ e. size_of-multiplied_by e.1.terms (expanded a e.0 ts) ∙ sum_by-same _ _ (λ u. weighed e.0 u) e.1.terms) es
      ∙ sym (sum_by-all_terms (λ s. measure_of_row a true s ts) es)
    where
      turned : (x y w : ℕ) → x * (y * w) ≡ x * y * w
      turned x y w = omega arith

      weighed :
          (m : Mono) (u : Mono × ℤ) →
          nat_abs u.1 * size_of (expanded a m ts) ≡
          measure_of_row a true (record { symbols = m; names = u.0; number = u.1 }) ts
      weighed m u =
          ap (λ n. nat_abs u.1 * n) (expanded-size a m ts)
          ∙ sym (sum_by-scaled (nat_abs u.1)
          (λ t. nat_abs t.number * over_names (λ i. pair_weight a i (exp m (place i)) (exp t.names (place i)))) ts)
          ∙ sum_by-same _ _
          (λ t. turned (nat_abs u.1) (nat_abs t.number) (over_names (λ i. pair_weight a i (exp m (place i)) (exp t.names (place i))))) ts

  -- the measure of all pairs of two lists is that of the operators
  pairs_are :
      (w : Bool) (p q : Operator) →
      measure_of_pairs a w (all_terms p.terms) (all_terms q.terms) ≡
      over_terms (λ m k x. over_terms (λ l n y. pair_measure a w (pair_term m k x) (pair_term l n y)) q) p
  pairs_are w p q =
      sum_by-all_terms (λ s. measure_of_row a w s (all_terms q.terms)) p.terms
      ∙ (λ i. over_terms (λ m k x. sum_by-all_terms (pair_measure a w (pair_term m k x)) q.terms i) p)

  pub count-pairs : (p q : Operator) → measure_of_pairs a false (coefficient_terms p) (coefficient_terms q) ≡ product_count a p q
  unfolding product_count coefficient_terms
  count-pairs p q = pairs_are false p q

  pub norm-pairs : (p q : Operator) → measure_of_pairs a true (coefficient_terms p) (coefficient_terms q) ≡ product_norm a p q
  unfolding product_norm coefficient_terms
  norm-pairs p q = pairs_are true p q

  pub product_count-is : (p q : Operator) → length (product_terms a p.terms (coefficient_terms q)) ≡ product_count a p q
  unfolding coefficient_terms
  product_count-is p q = product_terms-count p.terms (coefficient_terms q) ∙ count-pairs p q

  pub product_norm-is : (p q : Operator) → size_of (product_terms a p.terms (coefficient_terms q)) ≡ product_norm a p q
  unfolding coefficient_terms
  product_norm-is p q = product_terms-size p.terms (coefficient_terms q) ∙ norm-pairs p q
