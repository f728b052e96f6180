-- A vector with a fraction times another added, entry by entry. Main lemmas `adding_more` and `adding_end`, cited where the loop of `added`
-- goes on and ends, and `added-is`, by which the entries make the vector.
use Rattle.ct_module.proofs.Base.{◌≡◌, sym, ◌∙◌, ap, ap₂, subst, arith, ℕ, suc, ◌+◌, ◌<◌, List, [], ◌∷◌, ◌++◌, length, length-append, Ok, ◌>>=◌}
use Rattle.ct_module.proofs.Base.{K, field, behind, each_behind}
use Rattle.std.specs.List.{zip}
use Rattle.ct_frac.specs.Written.{Written, value}
use Rattle.ct_telescoping.specs.Vector.{entry-vector, same_vector, plus_vector, entry-plus_vector}
use Rattle.ct_telescoping.specs.VectorModule.{scale_vector, entry-scale_vector}
use Rattle.ct_module.specs.Combination.{checked_with_entry, checked_with}
use Rattle.ct_module.specs.Values.{values, vector_of}
use Rattle.ct_module.proofs.Ranges.{values_more}

module _ (q : Written) (sum v : List Written) where
  abbrev pub added_value : ℕ → K
  added_value k = field.◌+◌ (values sum k) (field.◌*◌ (value q) (values v k))

  -- what is made, and the entries that are left
  pub record IsAdding (made left right : List Written) : Type 0 where
    pub steps : checked_with q sum v ≡ behind (λ _ p. checked_with_entry q p) made (zip left right)
    pub same : length left ≡ length right
    pub many : length made + length left ≡ length sum
    pub lefts : (k : ℕ) → values left k ≡ values sum (length made + k)
    pub rights : (k : ℕ) → values right k ≡ values v (length made + k)
    pub done : (k : ℕ) → k < length made → values made k ≡ added_value k

  pub adding_start : (made : List Written) → made ≡ [] → length sum ≡ length v → IsAdding made sum v
  adding_start made none same = record {
    steps = each_behind (λ _ p. checked_with_entry q p) made (zip sum v) none;
    same = same;
    many = omega (arith, ap length none);
    lefts = λ k. ap (values sum) (let at : k ≡ length made + k = omega (arith, ap length none) in at);
    rights = λ k. ap (values v) (let at : k ≡ length made + k = omega (arith, ap length none) in at);
    done = λ k within. absurd (omega (arith, within, ap length none));
  }

  pub adding_more :
      (made left right more others next : List Written) (x y r : Written) → IsAdding made left right → left ≡ x ∷ more →
      right ≡ y ∷ others → checked_with_entry q (x, y) ≡ Ok r →
      value r ≡ field.◌+◌ (value x) (field.◌*◌ (value q) (value y)) → next ≡ made ++ r ∷ [] → IsAdding next more others
  adding_more made left right more others next x y r adding left_is right_is entry value_is pushed =
      let longer : length next ≡ length made + 1 = ap length pushed ∙ length-append made (r ∷ []) in
      let here : length made + 0 ≡ length made = omega arith in
      record {
        steps = adding.steps ∙ ap₂ (λ xs ys. behind (λ _ p. checked_with_entry q p) made (zip xs ys)) left_is right_is
            ∙ ap (λ o. o >>= (λ r. behind (λ _ p. checked_with_entry q p) (made ++ r ∷ []) (zip more others))) entry
            ∙ ap (λ d. behind (λ _ p. checked_with_entry q p) d (zip more others)) (sym pushed);
        same = omega (arith, adding.same, ap length left_is, ap length right_is);
        many = omega (arith, adding.many, ap length left_is, longer);
        lefts = λ k. ap (λ xs. values xs (suc k)) (sym left_is) ∙ adding.lefts (suc k)
            ∙ ap (values sum) (let at : length made + suc k ≡ length next + k = omega (arith, longer) in at);
        rights = λ k. ap (λ xs. values xs (suc k)) (sym right_is) ∙ adding.rights (suc k)
            ∙ ap (values v) (let at : length made + suc k ≡ length next + k = omega (arith, longer) in at);
        done = λ k within. subst (λ ws. values ws k ≡ added_value k) (sym pushed)
            (values_more added_value made r adding.done
            (value_is ∙ ap₂ (λ a b. field.◌+◌ a (field.◌*◌ (value q) b))
            (ap (λ xs. values xs 0) (sym left_is) ∙ adding.lefts 0 ∙ ap (values sum) here)
            (ap (λ xs. values xs 0) (sym right_is) ∙ adding.rights 0 ∙ ap (values v) here))
            k (omega (arith, within, longer)));
      }

  pub adding_end :
      (made left right : List Written) → IsAdding made left right → length left ≡ 0 → length sum ≡ length v →
      (length made ≡ length v) × ((k : ℕ) → k < length v → values made k ≡ added_value k)
  adding_end made left right adding none same =
      let long : length made ≡ length v = omega (arith, adding.many, none, same) in
      (long, λ k within. adding.done k (omega (arith, within, long)))

pub added-is :
    (d : ℕ) (q : Written) (sum v w : List Written) → length v ≡ d → ((k : ℕ) → k < length v → values w k ≡ added_value q sum v k) →
    vector_of d w ≡ plus_vector field.group d (vector_of d sum) (scale_vector field d (value q) (vector_of d v))
added-is d q sum v w long entries =
    same_vector field.group d _ _ (λ k within.
    entry-vector field.group d (values w) k within
    ∙ entries k (subst (λ n. k < n) (sym long) within)
    ∙ sym (entry-plus_vector field.group d _ _ k within
    ∙ ap₂ field.◌+◌ (entry-vector field.group d (values sum) k within)
    (entry-scale_vector field d (value q) (vector_of d v) k within ∙ ap (field.◌*◌ (value q)) (entry-vector field.group d (values v) k within))))
