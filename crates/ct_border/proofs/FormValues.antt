-- What a moved generator says of normal forms. Main lemma `moved_solves`: since by value it makes zero, the form of its leading monomial
-- is the sum over its other terms of the form, times the negative of the coefficient over the leading one.
use Rattle.ct_border.proofs.Base.{◌≡◌, ◌≢◌, ◌∙◌, ℕ, List, [], ◌∷◌, Some, sym, ap, ap₂, subst, Name, Action, Mono, Polynomial, polys, Operator}
use Rattle.ct_border.proofs.Base.{OperatorLeads, HasOperators}
use Rattle.ct_algebra.specs.Division.{inverse, over, over-product, mul-inverse, embed_nonzero, embed-sum}
use Rattle.ct_algebra.specs.Field.{K, field}
use Rattle.ct_algebra.specs.FieldLaws.{embedded}
use Rattle.ct_algebra.specs.Group.{IsHom, hom_zero, hom_neg, neg_sum, neg_unique}
use Rattle.ct_algebra.specs.Operators.{term_of, product_of}
use Rattle.ct_algebra.specs.Polynomial.{polys_domain}
use Rattle.ct_algebra.specs.Ring.{one_mul}
use Rattle.ct_algebra.specs.Terms.{sum_over}
unfoldable use Rattle.ct_frac.specs.Written.{value_over}
use Rattle.ct_reduce.proofs.FirstReducers.{found_is_first}
use Rattle.ct_reduce.specs.Reduction.{Reducer, first_reducer}
use Rattle.ct_telescoping.proofs.NormalFormsUnique.{V, sum_of, combined-terms}
use Rattle.ct_telescoping.specs.Tested.{combined, AreNormalForms}
use Rattle.ct_telescoping.specs.Vector.{Vector}
use Rattle.ct_telescoping.specs.VectorModule.{scale_vector, scale_value, scale_sum, scale_mul, scale_one}
use Rattle.ct_border.proofs.FormSteps.{IsMoved, cons_parts}

-- the sum over the terms of the form times −c/l
abbrev pub shared : {d : ℕ} → (Mono → Vector K d) → Polynomial → List (Mono × Polynomial) → Vector K d
shared {d} forms l ts = sum_over (V d) (λ n c. scale_vector field d (value_over (polys.neg c) l) (forms n)) ts

module _ (d : ℕ) (forms : Mono → Vector K d) (l : Polynomial) (nonzero : l ≢ polys.zero) where
  reciprocal : K
  reciprocal = inverse polys polys_domain (embedded l)

  reciprocal_is : field.◌*◌ (embedded l) reciprocal ≡ field.one
  unfolding reciprocal
  reciprocal_is = mul-inverse polys polys_domain (embedded l) (embed_nonzero polys polys_domain l nonzero)

  over_is : (n : Polynomial) → value_over n l ≡ field.◌*◌ reciprocal (embedded n)
  unfolding value_over
  over_is n =
      ap (λ x. over polys polys_domain x (embedded l))
      (sym (field.mul_comm (field.◌*◌ reciprocal (embedded n)) (embedded l) ∙ sym (field.mul_assoc (embedded l) reciprocal (embedded n))
      ∙ ap (λ x. field.◌*◌ x (embedded n)) reciprocal_is ∙ one_mul field (embedded n)))
      ∙ over-product polys polys_domain (field.◌*◌ reciprocal (embedded n)) (embedded l) (embed_nonzero polys polys_domain l nonzero)

  multiples_sum : (m : Mono) → IsHom polys.group (V d) (λ c. scale_vector field d (embedded c) (forms m))
  multiples_sum m = record {
    sums = λ b c. ap (λ x. scale_vector field d x (forms m)) (embed-sum polys polys_domain b c)
        ∙ scale_value field d (embedded b) (embedded c) (forms m);
  }

  negatives_sum : IsHom (V d) (V d) (λ v. scale_vector field d reciprocal ((V d).neg v))
  negatives_sum = record {
    sums = λ v w. ap (scale_vector field d reciprocal) (neg_sum (V d) v w) ∙ scale_sum field d reciprocal _ _;
  }

  -- the shares are −1/l times the terms
  shared_is : (ts : List (Mono × Polynomial)) → shared forms l ts ≡ scale_vector field d reciprocal ((V d).neg (sum_of d forms ts))
  shared_is [] = sym (hom_zero negatives_sum)
  shared_is (t ∷ ts) =
      ap₂ (V d).◌+◌
      (ap (λ x. scale_vector field d x (forms t.0)) (over_is (polys.neg t.1))
      ∙ scale_mul field d reciprocal (embedded (polys.neg t.1)) (forms t.0)
      ∙ ap (scale_vector field d reciprocal) (hom_neg (multiples_sum t.0) t.1))
      (shared_is ts)
      ∙ sym (negatives_sum.sums _ (sum_of d forms ts))

  solved : (m : Mono) (ts : List (Mono × Polynomial)) → sum_of d forms ((m, l) ∷ ts) ≡ (V d).zero → forms m ≡ shared forms l ts
  solved m ts none =
      sym (scale_one field d (forms m))
      ∙ ap (λ x. scale_vector field d x (forms m)) (sym reciprocal_is ∙ field.mul_comm (embedded l) reciprocal)
      ∙ scale_mul field d reciprocal (embedded l) (forms m)
      ∙ ap (scale_vector field d reciprocal) (neg_unique (V d) (sum_of d forms ts) _ ((V d).add_comm _ _ ∙ none))
      ∙ sym (shared_is ts)

pub moved_solves :
    (a : Name → Action) (generators : List Operator) (d : ℕ) (element : ℕ → Mono) (m n : Mono) (r : Reducer) (moved : Operator) (l : Polynomial)
    (ts : List (Mono × Polynomial)) → HasOperators a m → first_reducer m generators ≡ Some r → IsMoved a m r moved → moved.terms ≡ (n, l) ∷ ts →
    (forms : Mono → Vector K d) → AreNormalForms a generators d element forms → forms m ≡ shared forms l ts
moved_solves a generators d element m n r moved l ts has found w terms forms normal =
    let same = cons_parts (sym w.terms ∙ terms) in
    solved d forms w.coef w.nonzero m w.rest (ap (sum_of d forms) (sym w.terms) ∙ zero) ∙ ap₂ (shared forms) (ap (λ t. t.1) same.0) same.1
  where
    zero : sum_of d forms moved.terms ≡ (V d).zero
    zero =
        let first = found_is_first m generators r found in
        sym (combined-terms d forms moved)
        ∙ ap (combined forms) (w.is ∙ ap (product_of a (term_of r.symbols polys.one)) (sym first.is_there))
        ∙ normal.reduces m has (record {
          index = r.place;
          in_range = first.known;
          divides = record {
            mono = first.mono;
            coef = first.coef;
            leads = subst (λ g. OperatorLeads g first.mono first.coef) (sym first.is_there) first.leads;
            quotient = r.symbols;
            product = first.divides;
          };
          earlier = first.none_before;
        })
