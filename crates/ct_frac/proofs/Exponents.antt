-- The exponents of a common denominator are no less than those of the parts. Main lemmas `all_stand` and `all_grow`, which
-- `wider_ok` cites. A polynomial below a rising list does not stand in it.
use Rattle.ct_frac.proofs.Base.{◌≡◌, refl, ℕ, ◌≤◌, max, List, [], ◌∷◌, Ordering, Less, Equal, Greater, ◌∙◌, ap, subst, arith, ordering_reverse}
use Rattle.ct_frac.proofs.Base.{Polynomial, by_order, poly_cmp, poly_cmp_total, poly_tied}
use Rattle.std.proofs.lemmas.Cmp.{tied_itself}
use Rattle.ct_frac.specs.declared.factor.Factor.{Factor}
use Rattle.ct_frac.specs.Arithmetic.{exponent_in, joined_greatest, all_greatest, EachIsIn}
use Rattle.ct_frac.specs.Written.{IsBelow, AreFactors}
use Rattle.ct_frac.proofs.JoinedFactors.{greatest_factors}
use Rattle.ct_frac.proofs.Sorting.{turned, IsBelow-trans}

pub tied : (p : Polynomial) → poly_cmp p p ≡ Equal
tied p = tied_itself poly_cmp_total p

turned_less : (p q : Polynomial) → poly_cmp p q ≡ Less → poly_cmp q p ≡ Greater
turned_less p q less = poly_cmp_total.antisymm q p ∙ ap ordering_reverse less

-- what is below a list does not stand in it
pub exponent_below : (p : Polynomial) (fs : List Factor) → IsBelow p fs → exponent_in p fs ≡ 0
exponent_below p [] below = refl
exponent_below p (g ∷ gs) below =
    ap (λ o. by_order o (exponent_in p gs) g.exp (exponent_in p gs)) (turned_less p g.poly below.0) ∙ exponent_below p gs below.1

abbrev picked : Ordering → ℕ → ℕ → ℕ
picked o e rest = by_order o rest e rest

picked_low : (o : Ordering) (e rest f more : ℕ) → e ≤ f → rest ≤ more → picked o e rest ≤ picked o f more
picked_low Less e rest f more first second = second
picked_low Equal e rest f more first second = first
picked_low Greater e rest f more first second = second

grows : (p : Polynomial) (f : Factor) (fs : List Factor) → AreFactors fs → exponent_in p fs ≤ exponent_in p (joined_greatest f fs)
grows p f [] are = omega arith
grows p f (g ∷ gs) are = by (poly_cmp g.poly f.poly) refl (grows p f gs are.1.1)
  where
    by : (o : Ordering) → poly_cmp g.poly f.poly ≡ o → exponent_in p gs ≤ exponent_in p (joined_greatest f gs)
        → exponent_in p (g ∷ gs) ≤ exponent_in p
        (by_order o (g ∷ joined_greatest f gs) (record { poly = g.poly; exp = max g.exp f.exp } ∷ gs) (f ∷ g ∷ gs))
    by Less order more = picked_low (poly_cmp g.poly p) g.exp (exponent_in p gs) g.exp (exponent_in p (joined_greatest f gs)) (omega arith) more
    by Equal order more = picked_low (poly_cmp g.poly p) g.exp (exponent_in p gs) (max g.exp f.exp) (exponent_in p gs) (omega arith) (omega arith)
    by Greater order more = at_front (poly_cmp f.poly p) refl
      where
        less : poly_cmp f.poly g.poly ≡ Less
        less = turned g.poly f.poly order

        below : IsBelow f.poly (g ∷ gs)
        below = (less, IsBelow-trans f.poly g.poly gs less are.1.0)

        at_front : (o : Ordering) → poly_cmp f.poly p ≡ o → exponent_in p (g ∷ gs) ≤ picked o f.exp (exponent_in p (g ∷ gs))
        at_front Less told = omega arith
        at_front Greater told = omega arith
        at_front Equal told =
            let none : exponent_in p (g ∷ gs) ≡ 0 = exponent_below p (g ∷ gs) (subst (λ q. IsBelow q (g ∷ gs)) (poly_tied f.poly p told) below) in
            omega arith

stands : (f : Factor) (fs : List Factor) → f.exp ≤ exponent_in f.poly (joined_greatest f fs)
stands f [] = let same : exponent_in f.poly (f ∷ []) ≡ f.exp = ap (λ o. picked o f.exp 0) (tied f.poly) in omega arith
stands f (g ∷ gs) = by (poly_cmp g.poly f.poly) refl (stands f gs)
  where
    by : (o : Ordering) → poly_cmp g.poly f.poly ≡ o → f.exp ≤ exponent_in f.poly (joined_greatest f gs)
        → f.exp ≤ exponent_in f.poly (by_order o (g ∷ joined_greatest f gs) (record { poly = g.poly; exp = max g.exp f.exp } ∷ gs) (f ∷ g ∷ gs))
    by Less order more =
        let same : exponent_in f.poly (g ∷ joined_greatest f gs) ≡ exponent_in f.poly (joined_greatest f gs) =
        ap (λ o. picked o g.exp (exponent_in f.poly (joined_greatest f gs))) order in
        omega arith
    by Equal order more =
        let same : exponent_in f.poly (record { poly = g.poly; exp = max g.exp f.exp } ∷ gs) ≡ max g.exp f.exp =
        ap (λ o. picked o (max g.exp f.exp) (exponent_in f.poly gs)) order in
        omega arith
    by Greater order more =
        let same : exponent_in f.poly (f ∷ g ∷ gs) ≡ f.exp = ap (λ o. picked o f.exp (exponent_in f.poly (g ∷ gs))) (tied f.poly) in
        omega arith

pub all_grow : (p : Polynomial) (done fs : List Factor) → AreFactors done → AreFactors fs → exponent_in p done ≤ exponent_in p (all_greatest done fs)
all_grow p done [] are its = omega arith
all_grow p done (f ∷ fs) are its =
    let first = grows p f done are in
    let rest = all_grow p (joined_greatest f done) fs (greatest_factors f done its.0 are) its.1.1 in
    omega arith

pub all_stand : (done fs : List Factor) → AreFactors done → AreFactors fs → EachIsIn fs (all_greatest done fs)
all_stand done [] are its = tt
all_stand done (f ∷ fs) are its =
    let here = stands f done in
    let kept = greatest_factors f done its.0 are in
    let rest = all_grow f.poly (joined_greatest f done) fs kept its.1.1 in
    (omega arith, all_stand (joined_greatest f done) fs kept its.1.1)

-- ---- lists of exponents

pub EachIsIn-grown : (fs gs hs : List Factor) → EachIsIn fs gs → ((p : Polynomial) → exponent_in p gs ≤ exponent_in p hs) → EachIsIn fs hs
EachIsIn-grown [] gs hs each grown = tt
EachIsIn-grown (f ∷ fs) gs hs each grown = (let more = grown f.poly in let low = each.0 in omega arith, EachIsIn-grown fs gs hs each.1 grown)

EachIsIn-behind : (g : Factor) (fs gs : List Factor) → IsBelow g.poly fs → EachIsIn fs gs → EachIsIn fs (g ∷ gs)
EachIsIn-behind g [] gs below each = tt
EachIsIn-behind g (f ∷ fs) gs below each =
    let same : exponent_in f.poly (g ∷ gs) ≡ exponent_in f.poly gs = ap (λ o. picked o g.exp (exponent_in f.poly gs)) below.0 in
    (let low = each.0 in omega arith, EachIsIn-behind g fs gs below.1 each.1)

pub EachIsIn-itself : (fs : List Factor) → AreFactors fs → EachIsIn fs fs
EachIsIn-itself [] are = tt
EachIsIn-itself (f ∷ fs) are =
    let same : exponent_in f.poly (f ∷ fs) ≡ f.exp = ap (λ o. picked o f.exp (exponent_in f.poly fs)) (tied f.poly) in
    (omega arith, EachIsIn-behind f fs fs are.1.0 (EachIsIn-itself fs are.1.1))

-- an exponent of the one list is no greater than that of the other
pub exponent_low : (p : Polynomial) (fs gs : List Factor) → EachIsIn fs gs → exponent_in p fs ≤ exponent_in p gs
exponent_low p [] gs each = omega arith
exponent_low p (f ∷ fs) gs each = by (poly_cmp f.poly p) refl (exponent_low p fs gs each.1)
  where
    by : (o : Ordering) → poly_cmp f.poly p ≡ o → exponent_in p fs ≤ exponent_in p gs → picked o f.exp (exponent_in p fs) ≤ exponent_in p gs
    by Less told more = more
    by Equal told more = subst (λ q. f.exp ≤ exponent_in q gs) (poly_tied f.poly p told) each.0
    by Greater told more = more
