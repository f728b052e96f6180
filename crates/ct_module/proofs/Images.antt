-- What an operator makes of a vector, term by term: main lemmas `summing_start`, `summing_more` and `summing_end`, cited where the loop of
-- `image` begins, goes on and ends.
use Rattle.ct_module.proofs.Base.{◌≡◌, sym, ◌∙◌, ap, subst, ℕ, List, [], ◌∷◌, length, Ok, ◌>>=◌, K, field, Polynomial, polys, polys_domain}
use Rattle.std.proofs.lemmas.List.{get_or-replicate, length-replicate}
use Rattle.std.specs.Prelude.{replicate}
use Rattle.ct_algebra.specs.FieldLaws.{embedded}
use Rattle.ct_algebra.specs.Group.{zero_add}
use Rattle.ct_algebra.specs.Monomial.{Mono}
use Rattle.ct_algebra.specs.Operators.{Operator}
use Rattle.ct_algebra.specs.Sums.{lift}
use Rattle.ct_algebra.specs.Terms.{EachTerm, sum_over}
use Rattle.ct_checked.specs.Traversal.{checked_fold}
use Rattle.ct_frac.specs.Written.{Written, value, whole_polynomial}
use Rattle.ct_ore.specs.Naming.{Naming, actions_of}
use Rattle.ct_telescoping.specs.Staircase.{HasOperators}
use Rattle.ct_telescoping.specs.Tested.{combined}
use Rattle.ct_telescoping.specs.Vector.{Vector, vector_group, plus_vector, plus_vector_assoc, plus_vector-zero, zero_vector, entry-vector, entry-zero_vector, same_vector}
use Rattle.ct_telescoping.specs.VectorModule.{scale_vector}
use Rattle.ct_module.specs.Columns.{symbols_of, checked_free_column}
use Rattle.ct_module.specs.Combination.{checked_term, checked_combination, whole_terms}
use Rattle.ct_module.specs.Modules.{WrittenModule, dimension, written_zero}
use Rattle.ct_module.specs.Values.{values, vector_of, rows_by_value, made_by}
use Rattle.ct_module.proofs.Shares.{written_zero-value}

pub zeros-vector : (d : ℕ) (w : List Written) → w ≡ replicate d written_zero → vector_of d w ≡ zero_vector field.group d
zeros-vector d w is =
    same_vector field.group d _ _ (λ k within.
    entry-vector field.group d (values w) k within ∙ ap (λ xs. values xs k) is ∙ ap value (get_or-replicate d k written_zero written_zero within)
    ∙ written_zero-value ∙ sym (entry-zero_vector field.group d k within))

module _ (ns : List Naming) (m : WrittenModule) (v : List Written) where
  abbrev made_of : Mono → Vector K (dimension m)
  made_of γ = made_by (actions_of ns) (dimension m) (rows_by_value m) (symbols_of γ) (vector_of (dimension m) v)

  abbrev image_term : Mono → Polynomial → Vector K (dimension m)
  image_term γ p = scale_vector field (dimension m) (embedded p) (made_of γ)

  abbrev summed : List (Mono × Polynomial) → Vector K (dimension m)
  summed ts = sum_over (vector_group field.group (dimension m)) image_term ts

  -- the terms that are left, added to the sum, are the whole
  pub record IsSumming (all : List (Mono × Polynomial)) (sum : List Written) (left : List (Mono × Polynomial)) : Type 0 where
    pub steps :
        checked_combination (checked_free_column ns m v) (dimension m) (whole_terms all) ≡
        checked_fold (checked_term (checked_free_column ns m v)) sum (whole_terms left)
    pub size : length sum ≡ dimension m
    pub over : EachTerm (λ γ c. HasOperators (actions_of ns) γ) left
    pub means : summed all ≡ plus_vector field.group (dimension m) (vector_of (dimension m) sum) (summed left)

  pub summing_start :
      (all left : List (Mono × Polynomial)) (sum : List Written) → left ≡ all → sum ≡ replicate (dimension m) written_zero →
      EachTerm (λ γ c. HasOperators (actions_of ns) γ) all → IsSumming all sum left
  summing_start all left sum same is over = subst (IsSumming all sum) (sym same) (record {
    steps = ap (λ s. checked_fold (checked_term (checked_free_column ns m v)) s (whole_terms all)) (sym is);
    size = ap length is ∙ length-replicate (dimension m) written_zero;
    over = over;
    means = sym (ap (λ u. plus_vector field.group (dimension m) u (summed all)) (zeros-vector (dimension m) sum is)
        ∙ zero_add (vector_group field.group (dimension m)) (summed all));
  })

  pub summing_more :
      (all left more : List (Mono × Polynomial)) (sum w : List Written) (γ : Mono) (p : Polynomial) → IsSumming all sum left →
      left ≡ (γ, p) ∷ more → checked_term (checked_free_column ns m v) sum (γ, whole_polynomial p) ≡ Ok w → length w ≡ dimension m →
      vector_of (dimension m) w ≡ plus_vector field.group (dimension m) (vector_of (dimension m) sum) (image_term γ p) →
      IsSumming all w more
  summing_more all left more sum w γ p before left_is made size value_is = record {
    steps = before.steps ∙ ap (λ ts. checked_fold (checked_term (checked_free_column ns m v)) sum (whole_terms ts)) left_is
        ∙ ap (λ r. r >>= (λ s. checked_fold (checked_term (checked_free_column ns m v)) s (whole_terms more))) made;
    size = size;
    over = (subst (EachTerm (λ γ c. HasOperators (actions_of ns) γ)) left_is before.over).1;
    means = before.means ∙ ap (λ ts. plus_vector field.group (dimension m) (vector_of (dimension m) sum) (summed ts)) left_is
        ∙ sym (plus_vector_assoc field.group (dimension m) (vector_of (dimension m) sum) (image_term γ p) (summed more))
        ∙ ap (λ u. plus_vector field.group (dimension m) u (summed more)) (sym value_is);
  }

  pub summing_end :
      (op : Operator) (left : List (Mono × Polynomial)) (sum : List Written) → IsSumming op.terms sum left → left ≡ [] →
      vector_of (dimension m) sum ≡ combined made_of op
  unfolding lift
  summing_end op left sum whole none =
      sym (whole.means ∙ ap (λ ts. plus_vector field.group (dimension m) (vector_of (dimension m) sum) (summed ts)) none
      ∙ plus_vector-zero field.group (dimension m) (vector_of (dimension m) sum))
