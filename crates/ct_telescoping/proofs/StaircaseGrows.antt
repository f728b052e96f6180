-- The staircase of generators: main lemmas `divisor_listed` (divisors of elements are elements), `unit_listed` (1 is one,
-- where no leading monomial is 1) and `GrowsFromOne-staircase`.
-- What no leading monomial divides has only such divisors. A monomial but 1 is a symbol times a lower one, so each element
-- but the first has an earlier one before it.
use Rattle.ct_telescoping.proofs.Base.{◌≡◌, ◌≢◌, ℕ, zero, suc, ◌+◌, ◌<◌, ◌≤◌, List, length, get_or, ◌⊎◌, sym, ◌∙◌, ap, subst, arith, inl, inr, Less}
use Rattle.ct_telescoping.proofs.Base.{Equal, eq-or-lt_of_le, get_or_default, Contains-get_or, Mono, exp, exp-·, exp-unit, unit, ◌·◌, ·_assoc}
use Rattle.ct_telescoping.proofs.Base.{mono_cmp, monomials, total, total-·, total_of_less, less_of_total, Name, place, place_small, symbol}
use Rattle.ct_telescoping.proofs.Base.{by_symbols, Action, Operator, IsIrreducible, same_or_other}
use Rattle.std.specs.Prelude.{refl}
use Rattle.ct_telescoping.specs.Staircase.{HasOperators, IsElement, IsStaircaseOf, IsStep, GrowsFromOne}
use Rattle.ct_telescoping.specs.Rising.{IsListingOf}
use Rattle.ct_telescoping.proofs.RisingLists.{rises_at, total_unit, total-symbol}

-- ---- divisors

pub irreducible_divisor : (gs : List Operator) (t m : Mono) → IsIrreducible gs (t · m) → IsIrreducible gs m
irreducible_divisor gs t m irreducible k g below divides =
    irreducible k g below (record {
      mono = divides.mono;
      coef = divides.coef;
      leads = divides.leads;
      quotient = t · divides.quotient;
      product = ·_assoc t divides.quotient divides.mono ∙ ap (λ n. t · n) divides.product;
    })

pub operators_divisor : (a : Name → Action) (t m : Mono) → HasOperators a (t · m) → HasOperators a m
operators_divisor a t m has i still =
    let sum : exp (t · m) (place i) ≡ exp t (place i) + exp m (place i) = exp-· t m (place i) (place_small i) in
    let none : exp (t · m) (place i) ≡ 0 = has i still in
    omega arith

-- ---- the order of a monomial and its product with a symbol

not_lower : (m : Mono) → mono_cmp m m ≡ Less → ⊥
not_lower m less = clash (sym (monomials.same m) ∙ less)
  where
    clash : Equal ≡ Less → ⊥
    clash e = cc

symbol_grows : (i : Name) (m : Mono) → mono_cmp m (symbol i · m) ≡ Less
symbol_grows i m =
    less_of_total m (symbol i · m) (let sum = total-· (symbol i) m in let single = total-symbol i in omega arith)

-- 1, or a symbol times another
pub record IsProductOf (m : Mono) : Type 0 where
  pub name : Name
  pub rest : Mono
  pub is : m ≡ symbol name · rest

pub split : (m : Mono) → (m ≡ unit) ⊎ IsProductOf m
split = by_symbols (λ m. (m ≡ unit) ⊎ IsProductOf m) (inl refl) (λ i m before. inr (record { name = i; rest = m; is = refl }))

not_below_unit : (m : Mono) → mono_cmp m unit ≡ Less → ⊥
not_below_unit m less = by (split m)
  where
    by : (m ≡ unit) ⊎ IsProductOf m → ⊥
    by (inl same) = not_lower unit (ap (λ x. mono_cmp x unit) (sym same) ∙ less)
    by (inr w) =
        let small : total m ≤ total unit = total_of_less m unit less in
        let product : total m ≡ total (symbol w.name) + total w.rest = ap total w.is ∙ total-· (symbol w.name) w.rest in
        absurd (omega (arith, total_unit, total-symbol w.name))

-- ---- staircases

module _ (a : Name → Action) (gs : List Operator) (d : ℕ) (element : ℕ → Mono) (staircase : IsStaircaseOf d element a gs) where
  pub divisor_listed : (t m : Mono) → IsElement d element (t · m) → IsElement d element m
  divisor_listed t m is =
      staircase.complete m
      (operators_divisor a t m (subst (HasOperators a) (sym is.is) (staircase.have_operators is.place is.in_range)))
      (irreducible_divisor gs t m (subst (IsIrreducible gs) (sym is.is) (staircase.irreducible is.place is.in_range)))

  pub unit_listed : IsIrreducible gs unit → IsElement d element unit
  unit_listed proper = staircase.complete unit (λ i still. exp-unit (place i) (place_small i)) proper

  ordered : (j k : ℕ) → (j < k) ⊎ ((j ≡ k) ⊎ (k < j))
  ordered j k = grind arith

  pub elements_differ : (j k : ℕ) → j < d → k < d → element j ≡ element k → j ≡ k
  elements_differ j k small below same = by (ordered j k)
    where
      by : (j < k) ⊎ ((j ≡ k) ⊎ (k < j)) → j ≡ k
      by (inl less) = absurd (not_lower (element k) (ap (λ m. mono_cmp m (element k)) (sym same) ∙ staircase.rises j k less below))
      by (inr (inl equal)) = equal
      by (inr (inr more)) = absurd (not_lower (element k) (ap (mono_cmp (element k)) (sym same) ∙ staircase.rises k j more small))

  module _ (proper : IsIrreducible gs unit) where
    one : IsElement d element unit
    one = unit_listed proper

    first_is : element 0 ≡ unit
    first_is = by (ordered 0 one.place)
      where
        by : (0 < one.place) ⊎ ((0 ≡ one.place) ⊎ (one.place < 0)) → element 0 ≡ unit
        by (inl later) =
            absurd (not_below_unit (element 0) (ap (mono_cmp (element 0)) one.is ∙ staircase.rises 0 one.place later one.in_range))
        by (inr (inl same)) = ap element same ∙ sym one.is
        by (inr (inr less)) = absurd (omega arith)

    step : (k : ℕ) → 0 < k → k < d → IsStep d element k
    step k some below = by (split (element k))
      where
        by : (element k ≡ unit) ⊎ IsProductOf (element k) → IsStep d element k
        by (inl same) =
            absurd (not_below_unit (element 0) (ap (mono_cmp (element 0)) (sym same) ∙ staircase.rises 0 k some below))
        by (inr w) = record {
          name = w.name;
          before = before.place;
          earlier = earlier
              (ordered before.place k);
          product = w.is ∙ ap (λ m. symbol w.name · m) before.is;
        }
          where
            before : IsElement d element w.rest
            before = divisor_listed (symbol w.name) w.rest (record { place = k; in_range = below; is = sym w.is })

            grows : mono_cmp (element before.place) (element k) ≡ Less
            grows =
                ap (λ m. mono_cmp m (element k)) (sym before.is) ∙ ap (mono_cmp w.rest) w.is
                ∙ symbol_grows w.name w.rest

            earlier : (before.place < k) ⊎ ((before.place ≡ k) ⊎ (k < before.place)) → before.place < k
            earlier (inl less) = less
            earlier (inr (inl same)) =
                absurd (not_lower (element k) (ap (λ i. mono_cmp (element i) (element k)) (sym same) ∙ grows))
            earlier (inr (inr more)) =
                absurd (not_lower (element k) (monomials.trans _ _ _ (staircase.rises k before.place more before.in_range) grows))

    pub GrowsFromOne-staircase : GrowsFromOne d element
    GrowsFromOne-staircase = record {
      some = omega (arith, one.in_range);
      first = first_is;
      distinct = elements_differ;
      steps = step;
    }

-- ---- the staircase as a list

pub IsStaircaseOf-listing :
    (a : Name → Action) (gs : List Operator) (ms : List Mono) →
    IsListingOf (λ m. HasOperators a m × IsIrreducible gs m) ms → IsStaircaseOf (length ms) (λ k. get_or ms k unit) a gs
IsStaircaseOf-listing a gs ms listing = record {
  rises = λ j k less below. rises_at ms unit listing.rises j k less below;
  irreducible = λ k below. (listing.sound (get_or ms k unit) (Contains-get_or ms k unit below)).1;
  have_operators = λ k below. (listing.sound (get_or ms k unit) (Contains-get_or ms k unit below)).0;
  complete = λ m has irreducible. let found = listing.complete m (has, irreducible) in
      record { place = found.0; in_range = found.1; is = sym found.2 ∙ get_or_default ms found.0 m unit found.1 };
}

-- ---- whether a monomial is one of the first elements

module _ (d : ℕ) (element : ℕ → Mono) where
  pub found_or_not : (m : Mono) (n : ℕ) → n ≤ d → IsElement d element m ⊎ ((k : ℕ) → k < n → m ≢ element k)
  found_or_not m zero small = inr (λ k below. absurd (omega (arith, below)))
  found_or_not m (suc n) small = by (same_or_other m (element n)) (found_or_not m n (omega (arith, small)))
    where
      by : Dec (m ≡ element n) → IsElement d element m ⊎ ((k : ℕ) → k < n → m ≢ element k) →
          IsElement d element m ⊎ ((k : ℕ) → k < suc n → m ≢ element k)
      by (yes is) rest = inl (record { place = n; in_range = omega (arith, small); is = is })
      by (no not) (inl e) = inl e
      by (no not) (inr none) = inr (λ k below. at k (eq-or-lt_of_le (omega (arith, below))))
        where
          at : (k : ℕ) → (k ≡ n) ⊎ (k < n) → m ≢ element k
          at k (inl same) e = not (e ∙ ap element same)
          at k (inr less) e = none k less e
