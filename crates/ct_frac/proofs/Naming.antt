-- Steps of putting names and factors into a rising list, as the code takes them. Main lemmas `sorted_onto_both`,
-- `naming_more` and `insert_place`, which the loops of the quotient and of `insert` cite.
use Rattle.ct_frac.proofs.Base.{◌≡◌, refl, ℕ, zero, suc, ◌+◌, ◌-◌, ◌<◌, List, [], ◌∷◌, ◌++◌, Ordering, Less, Equal, Greater, sym, ◌∙◌, ap, ap₂, arith}
use Rattle.ct_frac.proofs.Base.{insert, Mono, exp, name_with, Polynomial, name, by_order, poly_cmp}
use Rattle.ct_frac.specs.declared.factor.Factor.{Factor}
use Rattle.ct_frac.specs.Code.{place_in}
use Rattle.ct_frac.specs.Normal.{inserted, names_from, sorted_onto, with_exponent}

pub sorted_onto_both : (done fs gs : List Factor) → sorted_onto done (fs ++ gs) ≡ sorted_onto (sorted_onto done fs) gs
sorted_onto_both done [] gs = refl
sorted_onto_both done (f ∷ fs) gs = sorted_onto_both (inserted f done) fs gs

with_exponent-append : (p : Polynomial) (e : ℕ) (fs : List Factor) → with_exponent p e fs ≡ with_exponent p e [] ++ fs
with_exponent-append p zero fs = refl
with_exponent-append p (suc e) fs = refl

pub naming_more :
    (left i : ℕ) (m : Mono) (done more : List Factor) → 0 < left →
    more ≡ sorted_onto done (with_exponent (name (name_with i)) (exp m i) []) →
    sorted_onto more (names_from (left - 1) (i + 1) m) ≡ sorted_onto done (names_from left i m)
naming_more zero i m done more some made = absurd (omega arith)
naming_more (suc left) i m done more some made =
    let rest : suc left - 1 ≡ left = omega arith in
    ap₂ (λ fs n. sorted_onto fs (names_from n (i + 1) m)) made rest
    ∙ sym (sorted_onto_both done (with_exponent (name (name_with i)) (exp m i) []) (names_from left (i + 1) m))
    ∙ ap (sorted_onto done) (sym (with_exponent-append (name (name_with i)) (exp m i) (names_from left (i + 1) m)))

pub insert_place : (f : Factor) (fs : List Factor) → insert fs (place_in f.poly fs) f ≡ inserted f fs
insert_place f [] = refl
insert_place f (g ∷ gs) = by (poly_cmp g.poly f.poly) (insert_place f gs)
  where
    by : (o : Ordering) → insert gs (place_in f.poly gs) f ≡ inserted f gs
        → insert (g ∷ gs) (by_order o (suc (place_in f.poly gs)) 0 0) f ≡ by_order o (g ∷ inserted f gs) (f ∷ g ∷ gs) (f ∷ g ∷ gs)
    by Less more = ap (λ hs. g ∷ hs) more
    by Equal more = refl
    by Greater more = refl
