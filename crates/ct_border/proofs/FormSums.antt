-- A normal form as a sum over the terms of a moved generator, as the loop of `settled` has it. Main lemmas `settling_start`,
-- `settling_more` and `settling_end`, cited where the loop begins, goes on and ends.
use Rattle.ct_border.proofs.Base.{◌≡◌, ◌≢◌, ◌<◌, ◌∙◌, ℕ, List, [], ◌∷◌, cond, length, map, None, Some, Ok, sym, ap, ap₂, subst, All}
use Rattle.ct_border.proofs.Base.{Less, Action, Name, Mono, mono_cmp, Operator, Polynomial, polys, ◌>>=◌, HasOperators, operators_divisor}
use Rattle.ct_border.proofs.Base.{·_comm, no_operator, mono_eq}
use Rattle.std.proofs.lemmas.List.{length-map, length-replicate}
use Rattle.std.proofs.lemmas.List.Elements.{All-get_or}
use Rattle.std.specs.Prelude.{replicate}
use Rattle.ct_algebra.specs.Field.{K, field}
use Rattle.ct_algebra.specs.FreeOf.{IsOver}
use Rattle.ct_algebra.specs.Group.{zero_add}
use Rattle.ct_algebra.specs.Operators.{term_of}
use Rattle.ct_algebra.specs.Terms.{EachTerm}
use Rattle.ct_checked.specs.Traversal.{checked_fold}
use Rattle.ct_frac.specs.Written.{Written, value_over}
use Rattle.ct_module.proofs.Images.{zeros-vector}
use Rattle.ct_module.specs.Combination.{checked_with, checked_term, checked_combination}
use Rattle.ct_module.specs.Modules.{written_zero}
use Rattle.ct_module.specs.Values.{vector_of}
use Rattle.ct_mono.specs.Rank.{mono_rank, rank-less}
use Rattle.ct_ore.specs.Measures.{checked_product}
use Rattle.ct_reduce.proofs.FirstReducers.{found_is_first, none_reduces}
use Rattle.ct_reduce.specs.Reduction.{Reducer, first_reducer}
use Rattle.ct_telescoping.proofs.MovedOver.{moved_over}
use Rattle.ct_telescoping.specs.Tested.{AreNormalForms}
use Rattle.ct_telescoping.specs.Vector.{Vector, vector_group, plus_vector, plus_vector_assoc, plus_vector-zero}
use Rattle.ct_telescoping.specs.VectorModule.{scale_vector}
use Rattle.ct_border.specs.Build.{written_one, unit_at, share_over, shares, checked_reduced, form_by, checked_form}
use Rattle.ct_border.specs.BuildMeans.{element_at}
use Rattle.ct_border.specs.Known.{IsWorked}
use Rattle.ct_border.specs.StaircaseMeans.{HasStaircase}
use Rattle.ct_border.proofs.FormSteps.{IsMoved, cons_parts, moved_is, form_is}
use Rattle.ct_border.proofs.FormValues.{shared, moved_solves}
use Rattle.ct_border.proofs.UnitVectors.{unit_at-means}

module _ (a : Name → Action) (generators : List Operator) (ms : List Mono) where
  -- the lower terms of a moved generator have operators
  lower_have :
      (m : Mono) (es : List (Mono × Polynomial)) → EachTerm (λ n c. mono_cmp n m ≡ Less) es → EachTerm (λ n c. HasOperators a n) es →
      EachTerm (λ n c. HasOperators a n × (mono_rank n < mono_rank m)) es
  lower_have m [] lower have = tt
  lower_have m (e ∷ es) lower have = ((have.0, rank-less e.0 m lower.0), lower_have m es lower.1 have.1)

  moved_have :
      (m : Mono) (r : Reducer) (moved : Operator) → All (IsOver a) generators → HasOperators a m → first_reducer m generators ≡ Some r →
      IsMoved a m r moved → EachTerm (λ n c. HasOperators a n) moved.terms
  moved_have m r moved over has found w =
      let first = found_is_first m generators r found in
      subst (IsOver a) (sym w.is)
      (moved_over a r.symbols r.generator
      (operators_divisor a first.mono r.symbols (subst (HasOperators a) (sym first.divides ∙ ·_comm _ _) has))
      (subst (IsOver a) first.is_there (All-get_or (IsOver a) generators r.place no_operator first.known over)))

  -- where no leading monomial divides
  pub unit_worked :
      (m : Mono) (w : List Written) → HasStaircase a generators ms → HasOperators a m → first_reducer m generators ≡ None →
      w ≡ unit_at ms m → IsWorked a generators ms m w
  unit_worked m w staircase has none is = subst (IsWorked a generators ms m) (sym is) (record {
    steps = form_is a generators ms m ∙ ap (form_by a generators ms (checked_form a generators ms) m) none;
    size = length-map ms (λ e. cond (mono_eq e m) written_one written_zero);
    means = unit_at-means a generators ms m staircase has (none_reduces 0 m generators none);
  })

  -- where one does
  pub form_moved :
      (m : Mono) (r : Reducer) → first_reducer m generators ≡ Some r →
      checked_form a generators ms m ≡
      checked_product a (term_of r.symbols polys.one) r.generator
      >>= (λ moved. checked_combination (checked_form a generators ms) (length ms) (shares moved.terms))
  unfolding checked_reduced
  form_moved m r found = form_is a generators ms m ∙ ap (form_by a generators ms (checked_form a generators ms) m) found

  module _ (m : Mono) (l : Polynomial) where
    -- the shares of the terms that are left, added to the sum, are the normal form of m
    pub record IsSettling (sum : List Written) (left : List (Mono × Polynomial)) : Type 0 where
      pub steps :
          checked_form a generators ms m ≡
          checked_fold (checked_term (checked_form a generators ms)) sum (map (share_over l) left)
      pub size : length sum ≡ length ms
      pub nonzero : l ≢ polys.zero
      pub lower : EachTerm (λ n c. HasOperators a n × (mono_rank n < mono_rank m)) left
      pub means :
          (forms : Mono → Vector K (length ms)) → AreNormalForms a generators (length ms) (element_at ms) forms →
          forms m ≡ plus_vector field.group (length ms) (vector_of (length ms) sum) (shared forms l left)

    pub settling_start :
        (r : Reducer) (moved : Operator) (n : Mono) (sum : List Written) (left : List (Mono × Polynomial)) →
        All (IsOver a) generators → HasOperators a m → first_reducer m generators ≡ Some r →
        checked_product a (term_of r.symbols polys.one) r.generator ≡ Ok moved → moved.terms ≡ (n, l) ∷ left →
        sum ≡ replicate (length ms) written_zero → IsSettling sum left
    settling_start r moved n sum left over has found product terms zeros =
        let w = moved_is a generators m r moved found product in
        let same = cons_parts (sym w.terms ∙ terms) in
        let have = subst (EachTerm (λ n c. HasOperators a n)) terms (moved_have m r moved over has found w) in
        record {
          steps = form_moved m r found
              ∙ ap (λ o. o >>= (λ moved. checked_combination (checked_form a generators ms) (length ms) (shares moved.terms))) product
              ∙ ap (λ ts. checked_combination (checked_form a generators ms) (length ms) (shares ts)) terms
              ∙ ap (λ s. checked_fold (checked_term (checked_form a generators ms)) s (map (share_over l) left)) (sym zeros);
          size = ap length zeros ∙ length-replicate (length ms) written_zero;
          nonzero = subst (λ t. t.1 ≢ polys.zero) same.0 w.nonzero;
          lower = lower_have m left (subst (EachTerm (λ n c. mono_cmp n m ≡ Less)) same.1 w.lower) have.1;
          means = λ forms normal.
              moved_solves a generators (length ms) (element_at ms) m n r moved l left has found w terms forms normal
              ∙ sym (ap (λ u. plus_vector field.group (length ms) u (shared forms l left)) (zeros-vector (length ms) sum zeros)
              ∙ zero_add (vector_group field.group (length ms)) (shared forms l left));
        }

    pub settling_more :
        (sum s form w : List Written) (left more : List (Mono × Polynomial)) (n : Mono) (c : Polynomial) → IsSettling sum left →
        left ≡ (n, c) ∷ more → s ≡ sum → IsWorked a generators ms n form → checked_with (share_over l (n, c)).1 s form ≡ Ok w →
        length w ≡ length form →
        vector_of (length form) w ≡
        plus_vector field.group (length form) (vector_of (length form) s)
        (scale_vector field (length form) (value_over (polys.neg c) l) (vector_of (length form) form)) → IsSettling w more
    settling_more sum s form w left more n c before left_is same worked made size value_is = record {
      steps = before.steps
          ∙ ap₂ (λ s ts. checked_fold (checked_term (checked_form a generators ms)) s (map (share_over l) ts)) (sym same) left_is
          ∙ ap (λ o. o >>= (λ v. checked_with (share_over l (n, c)).1 s v)
          >>= (λ s. checked_fold (checked_term (checked_form a generators ms)) s (map (share_over l) more))) worked.steps
          ∙ ap (λ o. o >>= (λ s. checked_fold (checked_term (checked_form a generators ms)) s (map (share_over l) more))) made;
      size = size ∙ worked.size;
      nonzero = before.nonzero;
      lower = (subst (EachTerm (λ n c. HasOperators a n × (mono_rank n < mono_rank m))) left_is before.lower).1;
      means = λ forms normal.
          before.means forms normal
          ∙ ap₂ (λ s ts. plus_vector field.group (length ms) (vector_of (length ms) s) (shared forms l ts)) (sym same) left_is
          ∙ sym (plus_vector_assoc field.group (length ms) (vector_of (length ms) s) _ (shared forms l more))
          ∙ ap (λ u. plus_vector field.group (length ms) u (shared forms l more))
          (ap (λ v. plus_vector field.group (length ms) (vector_of (length ms) s)
          (scale_vector field (length ms) (value_over (polys.neg c) l) v)) (sym (worked.means forms normal))
          ∙ sym (subst Sum worked.size value_is));
    }
      where
        Sum : ℕ → Type 0
        Sum d =
            vector_of d w ≡
            plus_vector field.group d (vector_of d s) (scale_vector field d (value_over (polys.neg c) l) (vector_of d form))

    pub settling_end :
        (sum : List Written) (left : List (Mono × Polynomial)) → IsSettling sum left → left ≡ [] → IsWorked a generators ms m sum
    settling_end sum left before none = record {
      steps = before.steps ∙ ap (λ ts. checked_fold (checked_term (checked_form a generators ms)) sum (map (share_over l) ts)) none;
      size = before.size;
      means = λ forms normal.
          sym (before.means forms normal ∙ ap (λ ts. plus_vector field.group (length ms) (vector_of (length ms) sum) (shared forms l ts)) none
          ∙ plus_vector-zero field.group (length ms) (vector_of (length ms) sum));
    }
