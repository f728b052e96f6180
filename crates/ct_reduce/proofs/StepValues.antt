-- What one step makes of a reduction, by the exact operations. Main lemma `step_is`: where a checked step has a value, all
-- is multiplied by the plan's factor, and then the part's product is taken from the rest. Cited by the laws of steps.
use Rattle.ct_reduce.proofs.Base.{◌≡◌, Ok, List, [], ◌∷◌, ◌++◌, map, cond, refl, Bool, true, false, ◌↔◌, IsTrue, get_or, sym, ◌∙◌, ap, subst}
use Rattle.ct_reduce.proofs.Base.{append_assoc, append-nil, neg_unique, neg_neg, one_mul, unit, Name, Polynomial, polys, times, times_is, Action}
use Rattle.ct_reduce.proofs.Base.{Operator, sum_of_operators, negative, term_of, no_operator, product_of, multiple, Reduction, multiple-one}
use Rattle.ct_reduce.proofs.Base.{checked_sum, checked_difference, difference_of_operators, checked_product, sum_overflow}
use Rattle.ct_algebra.proofs.ProductRule.{product_of-polynomial}
use Rattle.ct_checked.specs.Checked.{verdict_ok, both_fit}
use Rattle.ct_poly.specs.Measures.{checked_times, product_overflow}
use Rattle.ct_reduce.specs.Reduction.{Reducible, Step, step_for, is_one, checked_plan, checked_multiples, checked_multiplied, multiplied_unless_one}
use Rattle.ct_reduce.specs.Reduction.{checked_taken, checked_step}
use lib.ListN.{set}
use Rattle.ct_ore.specs.Measures as operators

-- ---- values of checked operations

pub times_value : (p q r : Polynomial) → checked_times p q ≡ Ok r → times p q ≡ r
unfolding checked_times
times_value p q r fits = verdict_ok (product_overflow p q) (times p q) r fits

pub sum_value : (p q r : Operator) → checked_sum p q ≡ Ok r → sum_of_operators p q ≡ r
unfolding checked_sum
sum_value p q r fits = verdict_ok (sum_overflow p q) _ r fits

pub difference_value : (p q r : Operator) → checked_difference p q ≡ Ok r → sum_of_operators p (negative q) ≡ r
unfolding checked_difference difference_of_operators
difference_value p q r fits = verdict_ok (sum_overflow p q) _ r fits

-- ---- the test for one

pub is_one_is : (p : Polynomial) → is_one p ≡ true → p ≡ polys.one
unfolding is_one
is_one_is p equal =
    sym (neg_neg polys.group p)
    ∙ sym (ap polys.neg (neg_unique polys.group p (polys.neg polys.one) (polys.true_zero _ equal)))
    ∙ neg_neg polys.group polys.one

pub one_is_one : (p : Polynomial) → p ≡ polys.one → is_one p ≡ true
unfolding is_one
one_is_one p same =
    ap (λ q. polys.is_zero (polys.◌+◌ q (polys.neg polys.one))) same ∙ ap polys.is_zero (polys.add_neg polys.one)
    ∙ polys.zero_true

pub told_one : (p : Polynomial) (b : Bool) → IsTrue b ↔ (p ≡ polys.one) → b ≡ is_one p
told_one p true told = sym (one_is_one p (told.0 refl))
told_one p false told = by (is_one p) refl
  where
    by : (b : Bool) → is_one p ≡ b → false ≡ is_one p
    by true equal = told.1 (is_one_is p equal) ∙ sym equal
    by false other = sym other

module _ (a : Name → Action) where
  pub product_value : (p q r : Operator) → checked_product a p q ≡ Ok r → product_of a p q ≡ r
  unfolding checked_product
  product_value p q r fits = verdict_ok (operators.product_overflow a p q) _ r fits

  pub multiple_value :
      (m : Polynomial) (p r : Operator) → checked_product a (term_of unit m) p ≡ Ok r → multiple a m p ≡ r
  multiple_value m p r fits = sym (product_of-polynomial a m p) ∙ product_value (term_of unit m) p r fits

  -- ---- all times m

  multiples_are :
      (m : Polynomial) (done cs r : List Operator) → checked_multiples a (term_of unit m) done cs ≡ Ok r →
      r ≡ done ++ map (multiple a m) cs
  multiples_are m done [] r fits = let same : done ≡ r = cc in sym same ∙ sym (append-nil done)
  multiples_are m done (c ∷ cs) r fits =
      let b = both_fit (checked_product a (term_of unit m) c) (λ p. checked_multiples a (term_of unit m) (done ++ p ∷ []) cs) r fits in
      multiples_are m (done ++ b.value ∷ []) cs r b.rest ∙ append_assoc done (b.value ∷ []) _
      ∙ ap (λ p. done ++ p ∷ map (multiple a m) cs) (sym (multiple_value m c b.value b.first))

  pub record Multiplied (m : Polynomial) (s t : Reduction) : Type 0 where
    pub scale_is : t.scale ≡ times m s.scale
    pub cofactors_are : t.cofactors ≡ map (multiple a m) s.cofactors
    pub rest_is : t.rest ≡ multiple a m s.rest

  multiplied_is : (m : Polynomial) (s t : Reduction) → checked_multiplied a m s ≡ Ok t → Multiplied m s t
  unfolding checked_multiplied
  multiplied_is m s t fits =
      let b = both_fit (checked_product a (term_of unit m) s.rest) _ t fits in
      let c = both_fit (checked_times m s.scale) _ t b.rest in
      let d = both_fit (checked_multiples a (term_of unit m) [] s.cofactors) _ t c.rest in
      let same : ◌≡◌ {A = Reduction} (record { scale = c.value; cofactors = d.value; rest = b.value }) t = cc in record {
        scale_is = ap (λ r. r.scale) (sym same) ∙ sym (times_value _ _ _ c.first);
        cofactors_are = ap (λ r. r.cofactors) (sym same) ∙ multiples_are m [] s.cofactors d.value d.first;
        rest_is = ap (λ r. r.rest) (sym same) ∙ sym (multiple_value m _ _ b.first);
      }

  one_multiplied : (m : Polynomial) (s : Reduction) → m ≡ polys.one → Multiplied m s s
  one_multiplied m s one = record {
    scale_is = sym (ap (λ n. times n s.scale) one ∙ times_is _ _ ∙ one_mul polys s.scale);
    cofactors_are = sym (ap (λ n. map (multiple a n) s.cofactors) one ∙ each s.cofactors);
    rest_is = sym (ap (λ n. multiple a n s.rest) one ∙ multiple-one a s.rest);
  }
    where
      each : (cs : List Operator) → map (multiple a polys.one) cs ≡ cs
      each [] = refl
      each (c ∷ cs) = ap (λ d. d ∷ map (multiple a polys.one) cs) (multiple-one a c) ∙ ap (λ ds. c ∷ ds) (each cs)

  pub unless_one_is : (m : Polynomial) (s t : Reduction) → multiplied_unless_one a m s ≡ Ok t → Multiplied m s t
  unfolding multiplied_unless_one
  unless_one_is m s t fits = by (is_one m) refl fits
    where
      by : (b : Bool) → is_one m ≡ b → cond b (Ok s) (checked_multiplied a m s) ≡ Ok t → Multiplied m s t
      by true one fits =
          let same : s ≡ t = cc in subst (Multiplied m s) same (one_multiplied m s (is_one_is m one))
      by false other fits = multiplied_is m s t fits

  -- ---- the part of a generator is taken

  pub record Taken (p : Step) (s t : Reduction) : Type 0 where
    pub scale_is : t.scale ≡ s.scale
    pub cofactors_are :
        t.cofactors ≡ set s.cofactors p.place (sum_of_operators (get_or s.cofactors p.place no_operator) p.part)
    pub rest_is : t.rest ≡ sum_of_operators s.rest (negative (product_of a p.part p.generator))

  pub taken_is : (p : Step) (s t : Reduction) → checked_taken a p s ≡ Ok t → Taken p s t
  unfolding checked_taken
  taken_is p s t fits =
      let b = both_fit (checked_product a p.part p.generator) _ t fits in
      let c = both_fit (checked_difference s.rest b.value) _ t b.rest in
      let d = both_fit (checked_sum (get_or s.cofactors p.place no_operator) p.part) _ t c.rest in
      let same : ◌≡◌ {A = Reduction} (record { scale = s.scale; cofactors = set s.cofactors p.place d.value; rest = c.value }) t = cc in record {
        scale_is = ap (λ r. r.scale) (sym same);
        cofactors_are = ap (λ r. r.cofactors) (sym same) ∙ ap (set s.cofactors p.place) (sym (sum_value _ _ _ d.first));
        rest_is =
            ap (λ r. r.rest) (sym same) ∙ sym (difference_value _ _ _ c.first)
            ∙ ap (λ w. sum_of_operators s.rest (negative w)) (sym (product_value _ _ _ b.first));
      }

  -- ---- the whole step

  -- the symbols before the generator
  abbrev pub moved : Reducible → Operator
  moved h = product_of a (term_of h.reducer.symbols polys.one) h.reducer.generator

  pub plan_is : (h : Reducible) (p : Step) → checked_plan a h ≡ Ok p → p ≡ step_for h (moved h)
  unfolding checked_plan
  plan_is h p fits =
      let b = both_fit (checked_product a (term_of h.reducer.symbols polys.one) h.reducer.generator) (λ w. Ok (step_for h w)) p fits in
      let same : step_for h b.value ≡ p = cc in sym same ∙ ap (step_for h) (sym (product_value _ _ _ b.first))

  pub record Stepped (h : Reducible) (s t : Reduction) : Type 0 where
    pub middle : Reduction
    pub first : Multiplied (step_for h (moved h)).factor s middle
    pub second : Taken (step_for h (moved h)) middle t

  pub step_is : (h : Reducible) (s t : Reduction) → checked_step a h s ≡ Ok t → Stepped h s t
  step_is h s t fits =
      let b = both_fit (checked_plan a h) _ t fits in
      let plan = plan_is h b.value b.first in
      let c = both_fit (multiplied_unless_one a b.value.factor s) _ t b.rest in record {
        middle = c.value;
        first = subst (λ p. Multiplied p.factor s c.value) plan (unless_one_is b.value.factor s c.value c.first);
        second = subst (λ p. Taken p c.value t) plan (taken_is b.value c.value t c.rest);
      }
