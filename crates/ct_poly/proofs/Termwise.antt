-- A list that is made term by term, in a loop over the rest of the terms.
--     made_of f ts               the lists f t one after the other
--     IsMaking f ts done rest    what is done, and what the rest will give, are the whole
-- Main lemmas `making_more` and `making_ended`; `head_low` bounds the total of the term at hand. Cited by
-- the loops of negatives, multiples and derivatives.
use Rattle.ct_poly.proofs.Base.{◌≡◌, ℕ, ◌≤◌, List, [], ◌∷◌, ◌++◌, length, sum_by, sym, ◌∙◌, ap, subst, arith, append_assoc, append-nil, sum_by-cons}
use Rattle.ct_poly.proofs.Base.{total}
use Rattle.ct_poly.specs.declared.term.Term.{Term}
use Rattle.ct_poly.specs.Terms.{greatest_total}
use Rattle.ct_poly.proofs.TermLists.{no_length}

abbrev pub made_of : (Term → List Term) → List Term → List Term
made_of f [] = []
made_of f (t ∷ ts) = f t ++ made_of f ts

pub record IsMaking (f : Term → List Term) (ts done rest : List Term) : Type 0 where
  pub made : done ++ made_of f rest ≡ made_of f ts
  pub weights : (w : Term → ℕ) → sum_by w rest ≤ sum_by w ts
  pub degrees : greatest_total rest ≤ greatest_total ts

pub making_more :
    {f : Term → List Term} {ts done more rest rest' : List Term} {t : Term} → rest ≡ t ∷ rest' → more ≡ done ++ f t →
    IsMaking f ts done rest → IsMaking f ts more rest'
making_more {f} {ts} {done} {more} {rest} {rest'} {t} rest_is more_is m =
    let g : IsMaking f ts done (t ∷ rest') = subst (IsMaking f ts done) rest_is m in
    subst (λ d. IsMaking f ts d rest') (sym more_is) (record {
      made = append_assoc done (f t) (made_of f rest') ∙ g.made;
      weights = λ w. omega (arith, g.weights w, sum_by-cons w t rest');
      degrees = omega (arith, g.degrees);
    })

pub making_ended :
    {f : Term → List Term} {ts done rest : List Term} → length rest ≡ 0 → IsMaking f ts done rest → done ≡ made_of f ts
making_ended {f} {ts} {done} {rest} empty m =
    sym (append-nil done) ∙ ap (λ r. done ++ made_of f r) (sym (no_length rest empty)) ∙ m.made

-- ---- the term at hand

pub head_low :
    {f : Term → List Term} {ts done rest rest' : List Term} {t : Term} → rest ≡ t ∷ rest' → IsMaking f ts done rest →
    total t.mono ≤ greatest_total ts
head_low rest_is m = omega (arith, m.degrees, ap greatest_total rest_is)
