-- A factor that joins a rising list, by the place where it is found: main lemmas `found_at` and `found_before`, which the
-- calls `with_greatest` and `joined` cite. The place is counted along the list as it is gone through.
use Rattle.ct_frac.proofs.Base.{◌≡◌, refl, ℕ, zero, suc, ◌+◌, ◌<◌, ◌≤◌, max, Ok, Err, List, [], ◌∷◌, length, Ordering, Less, Equal, Greater, ◌∙◌, ap}
use Rattle.ct_frac.proofs.Base.{arith, slice_set, slice_index_or, insert, by_order, Checked, ◌>>=◌, poly_cmp}
use Rattle.ct_frac.specs.declared.factor.Factor.{Factor}
use Rattle.ct_frac.specs.declared.insertion.Place.TheVariants.{At, Before}
use Rattle.ct_frac.specs.Arithmetic.{joined_greatest, checked_joined, checked_exponent}
use Rattle.ct_frac.specs.Code.{find_place, exponent_set}

-- two steps that only build
built : {A B C : Type 0} (c : Checked A) (f : A → B) (g : B → C) → (c >>= (λ a. Ok (f a)) >>= (λ b. Ok (g b))) ≡ (c >>= (λ a. Ok (g (f a))))
built (Ok a) f g = refl
built (Err k) f g = refl

-- the factor stands at a place, counted from k
pub record FoundAt (k i e : ℕ) (f : Factor) (fs : List Factor) : Type 0 where
  pub place : ℕ
  pub counted : i ≡ k + place
  pub within : place < length fs
  pub greatest : joined_greatest f fs ≡ exponent_set fs place (max e f.exp)
  pub added : checked_joined f fs ≡ (checked_exponent (e + f.exp) >>= (λ s. Ok (exponent_set fs place s)))

pub found_at : (k i e : ℕ) (f : Factor) (fs : List Factor) → find_place k f.poly fs ≡ At i e → FoundAt k i e f fs
found_at k i e f [] found = cc
found_at k i e f (g ∷ gs) found = by (poly_cmp g.poly f.poly) refl found (found_at (k + 1) i e f gs)
  where
    first : (k i x e : ℕ) → At k x ≡ At i e → (k ≡ i) × (x ≡ e)
    first k i x e same = (cc, cc)

    by :
        (o : Ordering) → poly_cmp g.poly f.poly ≡ o → by_order o (find_place (k + 1) f.poly gs) (At k g.exp) (Before k) ≡ At i e →
        (find_place (k + 1) f.poly gs ≡ At i e → FoundAt (k + 1) i e f gs) → FoundAt k i e f (g ∷ gs)
    by Less order found more = let h = more found in record {
      place = suc h.place;
      counted = omega (arith, h.counted);
      within = omega (arith, h.within);
      greatest = ap (λ o. by_order o (g ∷ joined_greatest f gs) (record { poly = g.poly; exp = max g.exp f.exp } ∷ gs) (f ∷ g ∷ gs)) order
          ∙ ap (λ hs. g ∷ hs) h.greatest;
      added = ap (λ o. by_order o (checked_joined f gs >>= (λ hs. Ok (g ∷ hs)))
          (checked_exponent (g.exp + f.exp) >>= (λ s. Ok (record { poly = g.poly; exp = s } ∷ gs))) (Ok (f ∷ g ∷ gs))) order
          ∙ ap (λ c. c >>= (λ hs. Ok (g ∷ hs))) h.added ∙ built (checked_exponent (e + f.exp)) (exponent_set gs h.place) (λ hs. g ∷ hs);
    }
    by Equal order found more = let same = first k i g.exp e found in record {
      place = 0;
      counted = omega (arith, same.0);
      within = omega arith;
      greatest = ap (λ o. by_order o (g ∷ joined_greatest f gs) (record { poly = g.poly; exp = max g.exp f.exp } ∷ gs) (f ∷ g ∷ gs)) order
          ∙ ap (λ x. record { poly = g.poly; exp = max x f.exp } ∷ gs) same.1;
      added = ap (λ o. by_order o (checked_joined f gs >>= (λ hs. Ok (g ∷ hs)))
          (checked_exponent (g.exp + f.exp) >>= (λ s. Ok (record { poly = g.poly; exp = s } ∷ gs))) (Ok (f ∷ g ∷ gs))) order
          ∙ ap (λ x. checked_exponent (x + f.exp) >>= (λ s. Ok (record { poly = g.poly; exp = s } ∷ gs))) same.1;
    }
    by Greater order found more = cc

-- it belongs before a place
pub record FoundBefore (k i : ℕ) (f : Factor) (fs : List Factor) : Type 0 where
  pub place : ℕ
  pub counted : i ≡ k + place
  pub within : place ≤ length fs
  pub greatest : joined_greatest f fs ≡ insert fs place f
  pub added : checked_joined f fs ≡ Ok (insert fs place f)

pub found_before : (k i : ℕ) (f : Factor) (fs : List Factor) → find_place k f.poly fs ≡ Before i → FoundBefore k i f fs
found_before k i f [] found =
    record { place = 0; counted = let same : k ≡ i = cc in omega arith; within = omega arith; greatest = refl; added = refl }
found_before k i f (g ∷ gs) found = by (poly_cmp g.poly f.poly) refl found (found_before (k + 1) i f gs)
  where
    by :
        (o : Ordering) → poly_cmp g.poly f.poly ≡ o → by_order o (find_place (k + 1) f.poly gs) (At k g.exp) (Before k) ≡ Before i →
        (find_place (k + 1) f.poly gs ≡ Before i → FoundBefore (k + 1) i f gs) → FoundBefore k i f (g ∷ gs)
    by Less order found more = let h = more found in record {
      place = suc h.place;
      counted = omega (arith, h.counted);
      within = omega (arith, h.within);
      greatest = ap (λ o. by_order o (g ∷ joined_greatest f gs) (record { poly = g.poly; exp = max g.exp f.exp } ∷ gs) (f ∷ g ∷ gs)) order
          ∙ ap (λ hs. g ∷ hs) h.greatest;
      added = ap (λ o. by_order o (checked_joined f gs >>= (λ hs. Ok (g ∷ hs)))
          (checked_exponent (g.exp + f.exp) >>= (λ s. Ok (record { poly = g.poly; exp = s } ∷ gs))) (Ok (f ∷ g ∷ gs))) order
          ∙ ap (λ c. c >>= (λ hs. Ok (g ∷ hs))) h.added;
    }
    by Equal order found more = cc
    by Greater order found more = record {
      place = 0;
      counted = let same : k ≡ i = cc in omega arith;
      within = omega arith;
      greatest = ap (λ o. by_order o (g ∷ joined_greatest f gs) (record { poly = g.poly; exp = max g.exp f.exp } ∷ gs) (f ∷ g ∷ gs)) order;
      added = ap (λ o. by_order o (checked_joined f gs >>= (λ hs. Ok (g ∷ hs)))
          (checked_exponent (g.exp + f.exp) >>= (λ s. Ok (record { poly = g.poly; exp = s } ∷ gs))) (Ok (f ∷ g ∷ gs))) order;
    }

-- writing the exponent at a place
pub exponent_set-is :
    (fs : List Factor) (i e : ℕ) (x : Factor) → i < length fs → x ≡ slice_index_or fs i x →
    slice_set fs i (record { poly = x.poly; exp = e }) ≡ exponent_set fs i e
exponent_set-is [] i e x within read = absurd (omega arith)
exponent_set-is (g ∷ gs) zero e x within read = ap (λ y. record { poly = y.poly; exp = e } ∷ gs) read
exponent_set-is (g ∷ gs) (suc i) e x within read = ap (λ hs. g ∷ hs) (exponent_set-is gs i e x (omega arith) read)
