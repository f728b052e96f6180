-- How a product meets the terms of a falling list, in a merge.
--     EachAbove m es         each monomial is above m
--     count_above m es       how many terms at the front are above m
--     IsBlock m p more       p is sixteen terms and then more, which begins above m
--     Meets p b c rest       c is the coefficient at the product b: with that of the first term of p, where both have one
--                            monomial, and rest is what follows; else alone, where p is empty or begins below b
-- Cited by the merge of a list with multiples of another.
use Rattle.std.specs.Prelude.{◌≡◌, ℕ, zero, suc, ℤ, ◌+ℤ◌, List, [], ◌∷◌, ◌++◌, length, ◌⊎◌}
use Rattle.std.proofs.Common.{Less, Equal}
use Rattle.ct_algebra.specs.Monomial.{Mono, mono_cmp}
use Rattle.ct_algebra.specs.Terms.{EachTerm, by_order}
use Rattle.ct_poly.specs.declared.term.Term.{Term}

abbrev pub EachAbove : Mono → List (Mono × ℤ) → Type 0
EachAbove m es = EachTerm (λ k c. mono_cmp m k ≡ Less) es

abbrev pub count_above : Mono → List (Mono × ℤ) → ℕ
count_above m [] = zero
count_above m (e ∷ es) = by_order (mono_cmp e.0 m) zero zero (suc (count_above m es))

abbrev pub BeginsAbove : Mono → List Term → Type 0
BeginsAbove m [] = ⊥
BeginsAbove m (a ∷ p) = mono_cmp m a.mono ≡ Less

-- more is what follows sixteen terms of p, and begins above m
pub record IsBlock (m : Mono) (p more : List Term) : Type 0 where
  pub block : List Term
  pub whole : p ≡ block ++ more
  pub long : length block ≡ 16
  pub above : BeginsAbove m more

abbrev pub BeginsBelow : Mono → List Term → Type 0
BeginsBelow m [] = Unit {0}
BeginsBelow m (a ∷ p) = mono_cmp a.mono m ≡ Less

-- both have a term at the monomial
pub record Joins (p : List Term) (b : Term) (c : ℤ) (rest : List Term) : Type 0 where
  pub head : Term
  pub full : p ≡ head ∷ rest
  pub tied : mono_cmp head.mono b.mono ≡ Equal
  pub sum : c ≡ head.coef +ℤ b.coef

-- the product is alone
pub record Precedes (p : List Term) (b : Term) (c : ℤ) (rest : List Term) : Type 0 where
  pub same : rest ≡ p
  pub coef : c ≡ b.coef
  pub below : BeginsBelow b.mono p

abbrev pub Meets : List Term → Term → ℤ → List Term → Type 0
Meets p b c rest = Joins p b c rest ⊎ Precedes p b c rest
