-- The first terms with given symbols, found by halving: main lemmas `same_before`, `other_at`.
-- In a list in written form symbols fall, so what stands between terms with the same symbols has these too.
use Rattle.ct_ore.proofs.Base.{◌≡◌, ◌≢◌, refl, ℕ, zero, suc, ◌<◌, Ordering, Less, Equal, Greater, List, [], ◌∷◌, length, get_or, take, drop, sym, ◌∙◌}
use Rattle.ct_ore.proofs.Base.{ap, subst, arith, ordering_then, less_is, Mono, monomials, mono_cmp, mono_tied, int_group}
use Rattle.ct_ore.specs.declared.coefficient_term.CoefficientTerm.{CoefficientTerm}
use Rattle.ct_ore.specs.CoefficientTerms.{by_parts, pair_cmp, pair_cmp_is, key, IsWritten}
use Rattle.ct_ore.specs.Lists.{AllHave, StartsOther}
use Rattle.ct_ore.proofs.MergeSteps.{below_at}

not_above : (y x : CoefficientTerm) → pair_cmp (key y) (key x) ≡ Less → mono_cmp y.symbols x.symbols ≡ Greater → ⊥
not_above y x less greater =
    cc (sym less ∙ pair_cmp_is (key y) (key x) ∙ ap (λ r. ordering_then r (mono_cmp y.names x.names)) greater)

same_between : (m y : Mono) → (mono_cmp y m ≡ Greater → ⊥) → (mono_cmp m y ≡ Greater → ⊥) → y ≡ m
same_between m y low high = by (mono_cmp y m) refl
  where
    by : (r : Ordering) → mono_cmp y m ≡ r → y ≡ m
    by Less p = absurd (high (monomials.turned y m p))
    by Equal p = mono_tied y m p
    by Greater p = absurd (low p)

pub same_before :
    (m : Mono) (ts : List CoefficientTerm) (n : ℕ) (t : CoefficientTerm) → n < length ts → t ≡ get_or ts n t → IsWritten ts →
    AllHave m (take 1 ts) → t.symbols ≡ m → AllHave m (take (suc n) ts)
same_before m [] n t below at written first same = absurd (omega arith)
same_before m (u ∷ ts) zero t below at written first same = first
same_before m (u ∷ []) (suc n) t below at written first same = absurd (omega arith)
same_before m (u ∷ v ∷ ts) (suc n) t below at written first same =
    (first.0, same_before m (v ∷ ts) n t (omega arith) at written.2 (next n (omega arith) at, tt) same)
  where
    upper : mono_cmp v.symbols m ≡ Greater → ⊥
    upper greater =
        not_above v u (less_is by_parts int_group _ written.1.0) (ap (mono_cmp v.symbols) first.0 ∙ greater)

    next : (n : ℕ) → n < length (v ∷ ts) → t ≡ get_or (v ∷ ts) n t → v.symbols ≡ m
    next zero below at = ap (λ (w : CoefficientTerm). w.symbols) (sym at) ∙ same
    next (suc n) below at =
        same_between m v.symbols upper
        (λ greater. not_above t v (below_at ts n t v (omega arith) at written.2.1) (ap (λ s. mono_cmp s v.symbols) same ∙ greater))

pub other_at :
    (m : Mono) (ts : List CoefficientTerm) (n : ℕ) (t : CoefficientTerm) → n < length ts → t ≡ get_or ts n t → t.symbols ≢ m →
    StartsOther m (drop n ts)
other_at m [] n t below at other = absurd (omega arith)
other_at m (u ∷ ts) zero t below at other = subst (λ (v : CoefficientTerm). v.symbols ≢ m) at other
other_at m (u ∷ ts) (suc n) t below at other = other_at m ts n t (omega arith) at other

pub ends_other : (m : Mono) (ts : List CoefficientTerm) → StartsOther m (drop (length ts) ts)
ends_other m [] = tt
ends_other m (t ∷ ts) = ends_other m ts
