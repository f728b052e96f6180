-- What a weighted column adds to a numerator is additive in the weight: main lemma `numerator_term-sum`.
use Rattle.ct_telescoping.proofs.Base.{◌≡◌, pos, Bool, true, false, cond, sym, ◌∙◌, ap, ap₂, add_mul, Name, Polynomial, polys, times, times_is, term}
use Rattle.ct_telescoping.proofs.Base.{operator_group, no_operator, term_of, term_of_hom}
use Rattle.ct_telescoping.specs.Columns.{Column, OfMonomial, OfSummand}
use Rattle.ct_telescoping.specs.Assembly.{is_same, numerator_term}

pub nothing_twice : no_operator ≡ operator_group.◌+◌ no_operator no_operator
unfolding no_operator
nothing_twice = sym (operator_group.add_zero operator_group.zero)

pub numerator_term-sum :
    (k : Name) (u w : Polynomial) (c : Column) →
    numerator_term k (polys.◌+◌ u w) c ≡ operator_group.◌+◌ (numerator_term k u c) (numerator_term k w c)
numerator_term-sum k u w (OfMonomial g) = nothing_twice
numerator_term-sum k u w (OfSummand p b e) = by (is_same p k)
  where
    spread : times (polys.◌+◌ u w) (term e (pos 1)) ≡ polys.◌+◌ (times u (term e (pos 1))) (times w (term e (pos 1)))
    spread = times_is _ _ ∙ add_mul polys u w _ ∙ sym (ap₂ polys.◌+◌ (times_is u _) (times_is w _))

    by : (t : Bool) → cond t (term_of b (times (polys.◌+◌ u w) (term e (pos 1)))) no_operator
        ≡ operator_group.◌+◌ (cond t (term_of b (times u (term e (pos 1)))) no_operator) (cond t (term_of b (times w (term e (pos 1)))) no_operator)
    by true = ap (term_of b) spread ∙ (term_of_hom b).sums _ _
    by false = nothing_twice
