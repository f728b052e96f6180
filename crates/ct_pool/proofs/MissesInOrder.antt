-- Misses are put into the slots of their indices, and read off in order.
-- Main lemmas: `fills` and `passes_by`, a turn of `fill`'s loop keeps `Filling`; `orders`, a turn of `in_order`'s keeps `Ordered`.
use Rattle.ct_pool.proofs.Base.{◌≡◌, ◌≢◌, ◌⊎◌, inl, inr, ⊎_elim, ℕ, zero, suc, ◌≤◌, List, [], ◌∷◌, ◌++◌, length, set, Some, None, Option, refl, sym}
use Rattle.ct_pool.proofs.Base.{ap, ◌∙◌, subst, arith, append_assoc, length-append, slice_get, map, reverse, ◌==◌, nat_tests, reverse-append, times}
use Rattle.ct_pool.proofs.Base.{one_if, sum_over-append, each_here, each_there}
use Rattle.std.proofs.lemmas.Option.{slice_get_within}
use Rattle.ct_pool.specs.declared.job.Outcome.{Outcome}
use Rattle.ct_pool.specs.declared.job.Outcome.TheVariants.{Miss}
use Rattle.ct_pool.specs.FirstDecided.{outcomes_below}
use Rattle.ct_pool.proofs.Lists.{map_push}
use Rattle.ct_pool.specs.Found.{AreMisses, AreSlots, numbers_of}

get_set_cases : {X : Type 0} (xs : List X) (i k : ℕ) (a b : X) → slice_get (set xs i a) k ≡ Some b →
    ((k ≡ i) × (a ≡ b)) ⊎ ((k ≢ i) × (slice_get xs k ≡ Some b))
get_set_cases [] i k a b e = absurd (cc)
get_set_cases (x ∷ xs) zero zero a b e = inl (refl, (cc))
get_set_cases (x ∷ xs) zero (suc k) a b e = inr ((λ h. omega arith), e)
get_set_cases (x ∷ xs) (suc i) zero a b e = inr ((λ h. omega arith), e)
get_set_cases (x ∷ xs) (suc i) (suc k) a b e =
    ⊎_elim (λ t. inl (ap suc t.0, t.1)) (λ t. let n = t.0 in inr ((λ h. n (omega arith)), t.1)) (get_set_cases xs i k a b e)

module _ {M H : Type 0} (outcome : ℕ → Outcome M H) where
  pub record Filling (all ms : List (ℕ × M)) (first now : List (Option M)) : Type 0 where
    pub slots : AreSlots outcome now
    pub misses : AreMisses outcome ms
    pub left : (k : ℕ) → slice_get now k ≡ Some None → (slice_get first k ≡ Some None) × (times k (numbers_of all) ≡ times k (numbers_of ms))

  last_counts : (k n : ℕ) (m : M) (ms ms' : List (ℕ × M)) → ms ≡ ms' ++ (n, m) ∷ [] → k ≢ n → times k (numbers_of ms) ≡ times k (numbers_of ms')
  last_counts k n m ms ms' e ne =
      let a = ap (λ l. times k (numbers_of l)) e in
      let b = ap (times k) (map_push (λ (p : ℕ × M). p.0) ms' (n, m)) in
      let c = sum_over-append (λ y. one_if (y == k)) (numbers_of ms') (n ∷ []) in
      let d : one_if (n == k) ≡ 0 = apart n k ne in omega arith
    where
      apart : (n k : ℕ) → k ≢ n → one_if (n == k) ≡ 0
      apart n k ne = grind (arith, nat_tests)

  pub fills : (all ms ms' : List (ℕ × M)) (first now : List (Option M)) (n : ℕ) (m : M) → ms ≡ ms' ++ (n, m) ∷ [] → Filling all ms first now →
      Filling all ms' first (set now n (Some m))
  fills all ms ms' first now n m e f =
      let both : AreMisses outcome (ms' ++ (n, m) ∷ []) = subst (AreMisses outcome) e f.misses in
      let here = (each_there (λ (p : ℕ × M). outcome p.0 ≡ Miss p.1) ms' ((n, m) ∷ []) both).0 in
      record {
        slots = λ k x at. ⊎_elim
            (λ (t : (k ≡ n) × (Some m ≡ Some x)). let s : m ≡ x = (let q = t.1 in cc) in ap outcome t.0 ∙ here ∙ ap Miss s)
            (λ (t : (k ≢ n) × (slice_get now k ≡ Some (Some x))). f.slots k x t.1)
            (get_set_cases now n k (Some m) (Some x) at);
        misses = each_here (λ (p : ℕ × M). outcome p.0 ≡ Miss p.1) ms' ((n, m) ∷ []) both;
        left = λ k at. ⊎_elim
            (λ (t : (k ≡ n) × (Some m ≡ None)). absurd (let q = t.1 in cc))
            (λ (t : (k ≢ n) × (slice_get now k ≡ Some None)). let r = f.left k t.1 in (r.0, r.1 ∙ last_counts k n m ms ms' e t.0))
            (get_set_cases now n k (Some m) None at);
      }

  pub passes_by : (all ms ms' : List (ℕ × M)) (first now : List (Option M)) (n : ℕ) (m : M) → ms ≡ ms' ++ (n, m) ∷ [] → length now ≤ n →
      Filling all ms first now → Filling all ms' first now
  passes_by all ms ms' first now n m e past f =
      let both : AreMisses outcome (ms' ++ (n, m) ∷ []) = subst (AreMisses outcome) e f.misses in
      record {
        slots = f.slots;
        misses = each_here (λ (p : ℕ × M). outcome p.0 ≡ Miss p.1) ms' ((n, m) ∷ []) both;
        left = λ k at. let r = f.left k at in let w = slice_get_within now k None at in (r.0, r.1 ∙ last_counts k n m ms ms' e (λ h. omega arith));
      }

  pub record Ordered (first : List (Option M)) (ms : List M) (now : List (Option M)) : Type 0 where
    pub done : map (λ m. Miss m) ms ≡ outcomes_below outcome (length ms)
    pub rest : map (λ m. Some m) ms ++ reverse now ≡ first

  at_here : {X : Type 0} (xs ys : List X) (x : X) → slice_get (xs ++ x ∷ ys) (length xs) ≡ Some x
  at_here [] ys x = refl
  at_here (z ∷ xs) ys x = at_here xs ys x

  length_map : {X Y : Type 0} (f : X → Y) (xs : List X) → length (map f xs) ≡ length xs
  length_map f [] = refl
  length_map f (x ∷ xs) = ap suc (length_map f xs)

  next_is : (first : List (Option M)) (ms : List M) (now now' : List (Option M)) (x : Option M) → now ≡ now' ++ x ∷ [] → Ordered first ms now →
      (map (λ m. Some m) ms ++ x ∷ reverse now' ≡ first)
  next_is first ms now now' x e o = ap (λ l. map (λ m. Some m) ms ++ l) (sym (ap reverse e ∙ reverse-append now' (x ∷ []))) ∙ o.rest

  pub next_at : (first : List (Option M)) (ms : List M) (now now' : List (Option M)) (x : Option M) → now ≡ now' ++ x ∷ [] → Ordered first ms now →
      slice_get first (length ms) ≡ Some x
  next_at first ms now now' x e o =
      let n = next_is first ms now now' x e o in
      ap (slice_get first) (sym (length_map (λ (m : M). Some m) ms)) ∙ ap (λ l. slice_get l (length (map (λ (m : M). Some m) ms))) (sym n)
      ∙ at_here (map (λ m. Some m) ms) (reverse now') x

  pub orders : (first : List (Option M)) (ms ms' : List M) (now now' : List (Option M)) (m : M) → AreSlots outcome first → now ≡ now' ++ Some m ∷ [] →
      ms' ≡ ms ++ m ∷ [] → Ordered first ms now → Ordered first ms' now'
  orders first ms ms' now now' m slots e more o =
      let is : outcome (length ms) ≡ Miss m = slots (length ms) m (next_at first ms now now' (Some m) e o) in
      let len : length ms' ≡ suc (length ms) = ap length more ∙ (let l = length-append ms (m ∷ []) in omega arith) in
      record {
        done = ap (map (λ m. Miss m)) more ∙ map_push (λ m. Miss m) ms m ∙ (λ i. o.done i ++ sym is i ∷ []) ∙ ap (outcomes_below outcome) (sym len);
        rest = ap (λ l. map (λ m. Some m) l ++ reverse now') more ∙ ap (λ l. l ++ reverse now') (map_push (λ m. Some m) ms m)
            ∙ append_assoc (map (λ m. Some m) ms) (Some m ∷ []) (reverse now') ∙ next_is first ms now now' (Some m) e o;
      }
