-- Generators have one staircase, one normal form of each monomial and one list of rows: main lemmas `staircase_unique`,
-- `forms_unique` and `rows_unique`; `forms_agree` is for forms that are known up to a monomial alone.
-- By induction along the order of monomials: the moved generator has the monomial as its leading one, with a nonzero
-- coefficient, and lower ones, at which both normal forms agree.
use Rattle.ct_telescoping.proofs.Base.{◌≡◌, ◌≢◌, ℕ, ◌<◌, List, [], ◌∷◌, get_or, ◌⊎◌, All, Contains, sym, ◌∙◌, ap, ap₂, subst, arith, refl, inl, inr}
use Rattle.ct_telescoping.proofs.Base.{Less, All-get_or, Group, cancel, mul_cancel, EachTerm, AllBelow, IsCanonical, sum_over, less_is, not_zero}
use Rattle.ct_telescoping.proofs.Base.{lift, Mono, mono_cmp, monomials, ◌·◌, ·_comm, Name, symbol, Polynomial, polys, polys_domain, Action, Still}
use Rattle.ct_telescoping.proofs.Base.{Operator, no_operator, term_of, product_of, IsOver, OperatorLeads, IsIrreducible, embed, fractions_domain}
use Rattle.ct_telescoping.proofs.Base.{embed_nonzero, K, field, shifted_leads}
use Rattle.ct_telescoping.specs.Vector.{Vector, listed, entry, same_vector, vector_group}
use Rattle.ct_telescoping.specs.VectorModule.{scale_vector, entry-scale_vector}
use Rattle.ct_telescoping.specs.StaircaseModule.{Rows}
use Rattle.ct_telescoping.specs.Staircase.{HasOperators, IsStaircaseOf}
use Rattle.ct_telescoping.specs.Tested.{combined, FirstReducer, ReducesAt, AreNormalForms, HasRows}
use Rattle.ct_telescoping.specs.Rising.{IsListingOf}
use Rattle.ct_telescoping.proofs.OrderedLists.{listed_contains, contains_listed, listed_same, ordered_listed}
use Rattle.ct_telescoping.proofs.RisingLists.{listing_unique}
use Rattle.ct_telescoping.proofs.StaircaseGrows.{operators_divisor}
use Rattle.ct_telescoping.proofs.MonomialInduction.{by_lower}
use Rattle.ct_telescoping.proofs.MovedOver.{moved_over, operators-symbol}
use Rattle.ct_telescoping.proofs.StillNames.{is_still}
use Rattle.ct_telescoping.proofs.Reducers.{reducer_or_none}

module _ (d : ℕ) where
  abbrev pub V : Group (Vector K d)
  V = vector_group field.group d

  abbrev pub ι : Polynomial → K
  ι c = embed polys polys_domain c

  -- a nonzero polynomial cancels
  scale_cancel : (c : Polynomial) → c ≢ polys.zero → (v w : Vector K d) → scale_vector field d (ι c) v ≡ scale_vector field d (ι c) w → v ≡ w
  scale_cancel c nonzero v w same =
      same_vector field.group d v w (λ k below.
      mul_cancel field (fractions_domain polys polys_domain) (ι c) _ _ (embed_nonzero polys polys_domain c nonzero)
      (sym (entry-scale_vector field d (ι c) v k below) ∙ ap (λ u. entry field.group d u k) same ∙ entry-scale_vector field d (ι c) w k below))

  abbrev pub sum_of : (Mono → Vector K d) → List (Mono × Polynomial) → Vector K d
  sum_of f es = sum_over V (λ m c. scale_vector field d (ι c) (f m)) es

  pub combined-terms : (f : Mono → Vector K d) (p : Operator) → combined f p ≡ sum_of f p.terms
  unfolding lift
  combined-terms f p = refl

  module _ (f g : Mono → Vector K d) where
    -- sums of terms at which both agree
    pub same_sums : (es : List (Mono × Polynomial)) → EachTerm (λ m c. f m ≡ g m) es → sum_of f es ≡ sum_of g es
    same_sums [] same = refl
    same_sums (e ∷ es) same = ap₂ V.◌+◌ (ap (scale_vector field d (ι e.1)) same.0) (same_sums es same.1)

  -- where both make the same of an operator and agree below its leading monomial, they agree at it
  agree_terms :
      (f g : Mono → Vector K d) (a : Name → Action) (p : Operator) (m : Mono) (c : Polynomial) → OperatorLeads p m c → IsOver a p →
      ((n : Mono) → mono_cmp n m ≡ Less → HasOperators a n → f n ≡ g n) → combined f p ≡ combined g p → f m ≡ g m
  agree_terms f g a p m c leads over lower same =
      scale_cancel c nonzero (f m) (g m)
      (cancel V (sum_of f leads.rest) _ _
      (V.add_comm _ _ ∙ sym (ap (sum_of f) leads.is_first) ∙ sym (combined-terms f p) ∙ same ∙ combined-terms g p ∙ ap (sum_of g) leads.is_first
      ∙ V.add_comm _ _ ∙ ap (λ u. V.◌+◌ u (scale_vector field d (ι c) (g m))) (sym (same_sums f g leads.rest rest_same))))
    where
      canonical : IsCanonical monomials polys.group ((m, c) ∷ leads.rest)
      canonical = subst (IsCanonical monomials polys.group) leads.is_first p.canonical

      nonzero : c ≢ polys.zero
      nonzero = not_zero monomials polys.group c canonical.0

      has : EachTerm (λ n b. HasOperators a n) ((m, c) ∷ leads.rest)
      has = subst (EachTerm (λ n b. HasOperators a n)) leads.is_first over

      all :
          (es : List (Mono × Polynomial)) → AllBelow monomials polys.group m es → EachTerm (λ n b. HasOperators a n) es →
          EachTerm (λ n b. f n ≡ g n) es
      all [] below have = tt
      all (e ∷ es) below have = (lower e.0 (less_is monomials polys.group _ below.0) have.0, all es below.1 have.1)

      rest_same : EachTerm (λ n b. f n ≡ g n) leads.rest
      rest_same = all leads.rest canonical.1 has.1

-- ---- one staircase

staircase-listing :
    (a : Name → Action) (generators : List Operator) (d : ℕ) (element : ℕ → Mono) → IsStaircaseOf d element a generators →
    IsListingOf (λ m. HasOperators a m × IsIrreducible generators m) (listed element 0 d)
staircase-listing a generators d element staircase = record {
  rises = ordered_listed (λ m n. mono_cmp m n ≡ Less) element d staircase.rises 0 d (omega arith);
  sound = λ m found. let r = listed_contains element 0 d m found in
      let below : r.0 < d = omega (arith, r.2) in
      subst (λ k. HasOperators a k × IsIrreducible generators k) (sym r.3) (staircase.have_operators r.0 below, staircase.irreducible r.0 below);
  complete = λ m holds. let e = staircase.complete m holds.0 holds.1 in
      subst (Contains (listed element 0 d)) (sym e.is) (contains_listed element 0 d e.place (omega arith) (omega (arith, e.in_range)));
}

pub staircase_unique :
    (a : Name → Action) (generators : List Operator) (d e : ℕ) (element other : ℕ → Mono) →
    IsStaircaseOf d element a generators → IsStaircaseOf e other a generators →
    (d ≡ e) × ((k : ℕ) → k < d → element k ≡ other k)
staircase_unique a generators d e element other first second =
    listed_same element other d e
    (listing_unique (λ m. HasOperators a m × IsIrreducible generators m) (listed element 0 d) (listed other 0 e)
    (staircase-listing a generators d element first) (staircase-listing a generators e other second))

-- ---- one normal form

module _ (a : Name → Action) (generators : List Operator) (over : All (IsOver a) generators) (d : ℕ) (element : ℕ → Mono)
    (staircase : IsStaircaseOf d element a generators) where
  abbrev pub IsAtMost : Mono → Mono → Type 0
  IsAtMost n m = (n ≡ m) ⊎ (mono_cmp n m ≡ Less)

  -- both reduce at a monomial and at all lower ones
  pub record BothReduce (f g : Mono → Vector K d) (m : Mono) : Type 0 where
    pub first : (n : Mono) → IsAtMost n m → ReducesAt a generators d element f n
    pub second : (n : Mono) → IsAtMost n m → ReducesAt a generators d element g n

  pub forms_agree :
      (f g : Mono → Vector K d) → ((k : ℕ) → k < d → f (element k) ≡ g (element k)) →
      (m : Mono) → HasOperators a m → BothReduce f g m → f m ≡ g m
  forms_agree f g elements =
      by_lower (λ m. HasOperators a m → BothReduce f g m → f m ≡ g m) (λ m lower has both. step m lower has both (reducer_or_none generators m))
    where
      below : (n m : Mono) → mono_cmp n m ≡ Less → BothReduce f g m → BothReduce f g n
      below n m less both = record {
        first = λ k low. both.first k (inr (under k low));
        second = λ k low. both.second k (inr (under k low));
      }
        where
          under : (k : Mono) → IsAtMost k n → mono_cmp k m ≡ Less
          under k (inl same) = subst (λ x. mono_cmp x m ≡ Less) (sym same) less
          under k (inr lower) = monomials.trans k n m lower less

      step : (m : Mono) → ((n : Mono) → mono_cmp n m ≡ Less → HasOperators a n → BothReduce f g n → f n ≡ g n) → HasOperators a m →
          BothReduce f g m → FirstReducer generators m ⊎ IsIrreducible generators m → f m ≡ g m
      step m lower has both (inr irreducible) =
          let e = staircase.complete m has irreducible in
          ap f e.is ∙ elements e.place e.in_range ∙ ap g (sym e.is)
      step m lower has both (inl r) =
          agree_terms d f g a moved m leads.0 (subst (λ k. OperatorLeads moved k leads.0) r.divides.product leads.1)
          (moved_over a r.divides.quotient generator
          (operators_divisor a r.divides.mono r.divides.quotient (subst (HasOperators a) (sym r.divides.product ∙ ·_comm _ _) has))
          (All-get_or (IsOver a) generators r.index no_operator r.in_range over))
          (λ n less has_n. lower n less has_n (below n m less both))
          (both.first m (inl refl) has r ∙ sym (both.second m (inl refl) has r))
        where
          generator : Operator
          generator = get_or generators r.index no_operator

          moved : Operator
          moved = product_of a (term_of r.divides.quotient polys.one) generator

          leads : (c : Polynomial) × OperatorLeads moved (r.divides.quotient · r.divides.mono) c
          leads = shifted_leads a r.divides.quotient generator r.divides.mono r.divides.coef r.divides.leads

  pub forms_unique :
      (f g : Mono → Vector K d) → AreNormalForms a generators d element f → AreNormalForms a generators d element g →
      (m : Mono) → HasOperators a m → f m ≡ g m
  forms_unique f g first second m has =
      forms_agree f g (λ k below. first.elements k below ∙ sym (second.elements k below)) m has
      (record { first = λ n low. first.reduces n; second = λ n low. second.reduces n })

  pub rows_unique :
      (M N : Rows) → HasRows a generators d element M → HasRows a generators d element N →
      (i : Name) (b c : ℕ) → b < d → c < d → M i b c ≡ N i b c
  rows_unique M N first second i b c below within = by (is_still a d M i)
    where
      by : Dec (a i ≡ Still) → M i b c ≡ N i b c
      by (yes still) = first.still_rows i still b c below within ∙ sym (second.still_rows i still b c below within)
      by (no acts) =
          first.rows i acts b c below within
          ∙ ap (λ v. entry field.group d v c) (forms_unique first.forms second.forms first.normal second.normal (symbol i · element b)
          (operators-symbol a i (element b) acts (staircase.have_operators b below)))
          ∙ sym (second.rows i acts b c below within)
