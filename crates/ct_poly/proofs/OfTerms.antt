-- From a polynomial to the list of its terms, and from a list that was made back to a polynomial, through what `terms`,
-- `within_limits` and `of_terms` say. Main lemmas `list_of` and `poly_is`. Cited by the methods outside of `poly`.
use Rattle.ct_poly.proofs.Base.{◌≡◌, ℕ, ◌≤◌, ℤ, List, length, sym, ◌∙◌, ap, subst, arith, Mono, monomials, same_terms, IsCanonical, EachTerm}
use Rattle.ct_poly.proofs.Base.{int_group, Polynomial, poly_of, norm_of, count, norm, terms-poly_of, most_terms, largest_norm}
use Rattle.ct_poly.specs.declared.term.Term.{Term}
use Rattle.ct_poly.specs.Terms.{entries, IsListOf, poly_of_terms}
use Rattle.ct_poly.specs.Content.{TermDivides, divided}
use Rattle.ct_poly.proofs.DividedTerms.{quotients, divided_is_listed}
use Rattle.ct_poly.proofs.TermLists.{rebuilt, length-entries, norm_of-entries}
use Rattle.ct_poly.proofs.Values.{IsKept}

pub list_of : {p : Polynomial} (ts : List Term) → entries ts ≡ p.terms → count p ≤ most_terms → norm p ≤ largest_norm → IsKept p ts
unfolding poly_of_terms count norm
list_of {p} ts same few small = record {
  falling = subst (IsCanonical monomials int_group) (sym same) p.canonical;
  value = ap poly_of same ∙ rebuilt p;
  few = omega (arith, few, length-entries ts, ap length same);
  small = omega (arith, small, norm_of-entries ts, ap norm_of same);
}

pub poly_is : {p r : Polynomial} {many size : ℕ} (v : List Term) → IsListOf p many size v → r.terms ≡ entries v → r ≡ p
unfolding poly_of_terms
poly_is {p} {r} v l read = same_terms monomials int_group r p (read ∙ sym (terms-poly_of (entries v) l.falling) ∙ ap (λ q. q.terms) l.value)

-- the list of the quotients by a term that divides each
pub divided_kept :
    {p : Polynomial} (m : Mono) (d : ℤ) (ts v : List Term) → IsKept p ts → entries ts ≡ p.terms → EachTerm (TermDivides m d) p.terms →
    entries v ≡ quotients m d (entries ts) → IsKept (divided m d p) v
divided_kept m d ts v mine same each made =
    let l = divided_is_listed m d ts v mine.falling mine.value (subst (EachTerm (TermDivides m d)) (sym same) each) made in
    record { falling = l.falling; value = l.value; few = omega (arith, l.few, mine.few); small = omega (arith, l.small, mine.small) }
