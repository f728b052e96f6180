-- Lists gathered into falling order: main lemmas `comparing_more`, `gathered_none` and `gathered_halves`, which the functions
-- of `gathering` cite.
-- Where each term is above the next it is above all later ones; and a list adds up to what its halves add up to.
use Rattle.ct_poly.proofs.Base.{◌≡◌, ◌≢◌, ◌+◌, ◌≤◌, pos, nat_abs, T, Less, Greater, List, [], ◌∷◌, ◌++◌, length, sym, ◌∙◌, ap, ap₂, subst, arith}
use Rattle.ct_poly.proofs.Base.{length-append, sum_by-append, sum_by-cons, zero_term, AllBelow_trans, monomials, mono_cmp, mono_turned_back, polys}
use Rattle.ct_poly.proofs.Base.{plus, plus_is, term, is_less, int_group}
use Rattle.ct_poly.specs.declared.term.Term.{Term}
use Rattle.ct_poly.specs.Terms.{entries, IsFalling, IsListOf, poly_of_terms, size_of}
use Rattle.ct_poly.proofs.TermLists.{nonzero_coef, poly_of-append, poly_of-none, poly_of-one}
use Rattle.ct_poly.proofs.WholeQuotients.{zero_abs}

-- the terms so far fall, if the rest does after the last of them; and a single term is the last
pub record IsComparing (ts : List Term) (last : Term) (rest : List Term) : Type 0 where
  pub falls : IsFalling (last ∷ rest) → IsFalling ts
  pub single : length ts ≤ 1 → ts ≡ last ∷ rest

pub comparing_more :
    {ts rest more : List Term} {last t : Term} → rest ≡ t ∷ more → last.coef ≢ pos 0 → mono_cmp last.mono t.mono ≡ Greater →
    IsComparing ts last rest → IsComparing ts t more
comparing_more {ts} {rest} {more} {last} {t} rest_is some greater comparing =
    let at : IsComparing ts last (t ∷ more) = subst (IsComparing ts last) rest_is comparing in
    record {
      falls = λ later. at.falls (
        nonzero_coef last.coef some,
        (lower, AllBelow_trans monomials int_group t.mono last.mono (entries more) less later.1),
        later,
      );
      single = λ short. absurd (omega (arith, short, ap length (at.single short)));
    }
  where
    less : mono_cmp t.mono last.mono ≡ Less
    less = mono_turned_back last.mono t.mono greater

    lower : T (is_less (mono_cmp t.mono last.mono))
    lower = subst (λ r. T (is_less r)) (sym less) tt

-- ---- gathering

pub gathered_none : (ts : List Term) {v : List Term} → length ts ≤ 1 → size_of ts ≡ 0 → v ≡ [] →
    IsListOf (poly_of_terms ts) (length ts) (size_of ts) v
gathered_none ts {v} short none empty =
    subst (IsListOf (poly_of_terms ts) (length ts) (size_of ts)) (sym empty)
    (record { falling = tt; value = poly_of-none ∙ sym (zero ts short none); few = omega arith; small = omega arith })
  where
    zero : (ts : List Term) → length ts ≤ 1 → size_of ts ≡ 0 → poly_of_terms ts ≡ polys.zero
    zero [] short none = poly_of-none
    zero (t ∷ []) short none =
        let coef : t.coef ≡ pos 0 = zero_abs t.coef (omega (arith, none, sum_by-cons (λ t. nat_abs t.coef) t [])) in
        poly_of-one t ∙ ap (term t.mono) coef ∙ zero_term t.mono
    zero (t ∷ u ∷ us) short none = absurd (omega (arith, short))

pub gathered_halves :
    (ts front back : List Term) {left right v : List Term} → ts ≡ front ++ back →
    IsListOf (poly_of_terms front) (length front) (size_of front) left →
    IsListOf (poly_of_terms back) (length back) (size_of back) right →
    IsListOf (plus (poly_of_terms left) (poly_of_terms right)) (length left + length right) (size_of left + size_of right) v →
    IsListOf (poly_of_terms ts) (length ts) (size_of ts) v
gathered_halves ts front back {left} {right} {v} ts_are first second sum = record {
  falling = sum.falling;
  value = sum.value ∙ ap₂ plus first.value second.value ∙ plus_is _ _ ∙ sym (ap poly_of_terms ts_are ∙ poly_of-append front back);
  few = omega (arith, sum.few, first.few, second.few, ap length ts_are, length-append front back);
  small = omega (arith, sum.small, first.small, second.small, ap size_of ts_are, sum_by-append (λ t. nat_abs t.coef) front back);
}
