-- Different factors put into a rising list make a rising list. Main lemmas `inserted_factors` and `sorted_factors`, which the
-- quotient and the shift cite. The order is total and ties only the same polynomial.
use Rattle.ct_frac.proofs.Base.{◌≡◌, ◌≢◌, refl, List, [], ◌∷◌, ◌++◌, Ordering, Less, Equal, Greater, sym, ◌∙◌, ap, ordering_reverse, Polynomial}
use Rattle.ct_frac.proofs.Base.{by_order, poly_cmp, poly_cmp_total, poly_tied}
use Rattle.ct_frac.specs.declared.factor.Factor.{Factor}
use Rattle.ct_frac.specs.Normal.{inserted, sorted_onto}
use Rattle.ct_frac.specs.Written.{IsFactor, IsBelow, AreFactors}

-- the polynomial is none of those of the factors
abbrev pub DiffersFrom : Polynomial → List Factor → Type 0
DiffersFrom p [] = Unit {0}
DiffersFrom p (g ∷ gs) = (p ≢ g.poly) × DiffersFrom p gs

-- factors that differ, in any order
abbrev pub AreDifferent : List Factor → Type 0
AreDifferent [] = Unit {0}
AreDifferent (f ∷ fs) = IsFactor f × (DiffersFrom f.poly fs × AreDifferent fs)

-- none of the first stands among the second
abbrev pub AreApart : List Factor → List Factor → Type 0
AreApart [] gs = Unit {0}
AreApart (f ∷ fs) gs = DiffersFrom f.poly gs × AreApart fs gs

pub turned : (p q : Polynomial) → poly_cmp p q ≡ Greater → poly_cmp q p ≡ Less
turned p q greater = poly_cmp_total.antisymm q p ∙ ap ordering_reverse greater

pub IsBelow-trans : (p q : Polynomial) (fs : List Factor) → poly_cmp p q ≡ Less → IsBelow q fs → IsBelow p fs
IsBelow-trans p q [] less below = tt
IsBelow-trans p q (g ∷ gs) less below = (poly_cmp_total.trans p q g.poly less below.0, IsBelow-trans p q gs less below.1)

IsBelow-inserted : (p : Polynomial) (f : Factor) (fs : List Factor) → poly_cmp p f.poly ≡ Less → IsBelow p fs → IsBelow p (inserted f fs)
IsBelow-inserted p f [] less below = (less, tt)
IsBelow-inserted p f (g ∷ gs) less below = by (poly_cmp g.poly f.poly) (IsBelow-inserted p f gs less below.1)
  where
    by : (o : Ordering) → IsBelow p (inserted f gs) → IsBelow p (by_order o (g ∷ inserted f gs) (f ∷ g ∷ gs) (f ∷ g ∷ gs))
    by Less more = (below.0, more)
    by Equal more = (less, below)
    by Greater more = (less, below)

pub inserted_factors : (f : Factor) (fs : List Factor) → IsFactor f → DiffersFrom f.poly fs → AreFactors fs → AreFactors (inserted f fs)
inserted_factors f [] is differs are = (is, (tt, tt))
inserted_factors f (g ∷ gs) is differs are = by (poly_cmp g.poly f.poly) refl (inserted_factors f gs is differs.1 are.1.1)
  where
    by : (o : Ordering) → poly_cmp g.poly f.poly ≡ o → AreFactors (inserted f gs)
        → AreFactors (by_order o (g ∷ inserted f gs) (f ∷ g ∷ gs) (f ∷ g ∷ gs))
    by Less order more = (are.0, (IsBelow-inserted g.poly f gs order are.1.0, more))
    by Equal order more = absurd (differs.0 (sym (poly_tied g.poly f.poly order)))
    by Greater order more =
        let less = turned g.poly f.poly order in
        (is, ((less, IsBelow-trans f.poly g.poly gs less are.1.0), are))

DiffersFrom-inserted :
    (p : Polynomial) (f : Factor) (fs : List Factor) → p ≢ f.poly → DiffersFrom p fs → DiffersFrom p (inserted f fs)
DiffersFrom-inserted p f [] other differs = (other, tt)
DiffersFrom-inserted p f (g ∷ gs) other differs = by (poly_cmp g.poly f.poly) (DiffersFrom-inserted p f gs other differs.1)
  where
    by : (o : Ordering) → DiffersFrom p (inserted f gs) → DiffersFrom p (by_order o (g ∷ inserted f gs) (f ∷ g ∷ gs) (f ∷ g ∷ gs))
    by Less more = (differs.0, more)
    by Equal more = (other, differs)
    by Greater more = (other, differs)

AreApart-inserted :
    (fs : List Factor) (f : Factor) (gs : List Factor) → DiffersFrom f.poly fs → AreApart fs gs → AreApart fs (inserted f gs)
AreApart-inserted [] f gs differs apart = tt
AreApart-inserted (h ∷ fs) f gs differs apart =
    (DiffersFrom-inserted h.poly f gs (λ same. differs.0 (sym same)) apart.0, AreApart-inserted fs f gs differs.1 apart.1)

pub sorted_factors :
    (done fs : List Factor) → AreFactors done → AreDifferent fs → AreApart fs done → AreFactors (sorted_onto done fs)
sorted_factors done [] are different apart = are
sorted_factors done (f ∷ fs) are different apart =
    sorted_factors (inserted f done) fs (inserted_factors f done different.0 apart.0 are) different.1.1
    (AreApart-inserted fs f done different.1.0 apart.1)

pub apart_from_none : (fs : List Factor) → AreApart fs []
apart_from_none [] = tt
apart_from_none (f ∷ fs) = (tt, apart_from_none fs)

pub DiffersFrom-append :
    (p : Polynomial) (fs gs : List Factor) → DiffersFrom p fs → DiffersFrom p gs → DiffersFrom p (fs ++ gs)
DiffersFrom-append p [] gs first second = second
DiffersFrom-append p (f ∷ fs) gs first second = (first.0, DiffersFrom-append p fs gs first.1 second)

pub AreDifferent-append :
    (fs gs : List Factor) → AreDifferent fs → AreDifferent gs → AreApart fs gs → AreDifferent (fs ++ gs)
AreDifferent-append [] gs first second apart = second
AreDifferent-append (f ∷ fs) gs first second apart =
    (first.0, (DiffersFrom-append f.poly fs gs first.1.0 apart.0, AreDifferent-append fs gs first.1.1 second apart.1))
