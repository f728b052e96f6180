-- The common denominator of 1 over the factors with a summed name. Main lemmas `common_denominator_is`: it is the one that is
-- defined; and `collects`: what it collects.
use Rattle.ct_module.proofs.Base.{◌≡◌, refl, ℕ, ◌+◌, ◌≤◌, max, Ok, Err, Result, List, [], ◌∷◌, ◌++◌, map, flat_map, All, Contains, ◌⊎◌, inl}
use Rattle.ct_module.proofs.Base.{inr, sym, ◌∙◌, ap, ap₂, subst, arith, append_assoc, append-nil, Checked, ◌>>=◌, checked_fold, checked_each}
use Rattle.ct_module.proofs.Base.{checked_each_from}
use Rattle.std.proofs.Common.{Ordering, Less, Equal, Greater, ◌<◌}
use Rattle.std.proofs.lemmas.Bool.{cases_order}
use Rattle.std.proofs.lemmas.List.{map-append}
use Rattle.std.proofs.lemmas.List.Elements.{All-nil, All-cons, All-weaker, All-contains_itself}
use Rattle.ct_algebra.specs.Monomial.{Mono}
use Rattle.ct_algebra.specs.Polynomial.{Polynomial}
use Rattle.ct_algebra.specs.Terms.{by_order}
use Rattle.std.specs.Prelude.{IfSome}
use Rattle.ct_checked.specs.Checked.{kind_of}
unfoldable use Rattle.ct_checked.specs.Checked.{verdict}
use Rattle.ct_checked.specs.declared.fault.Fault.{Fault}
use Rattle.ct_checked.specs.declared.fault.Fault.TheVariants.{Overflow, NoMemory}
use Rattle.ct_frac.proofs.Exponents.{all_stand, all_grow, EachIsIn-grown}
use Rattle.ct_frac.proofs.JoinedFactors.{all_greatest_factors, same_ok}
use Rattle.ct_frac.specs.Arithmetic.{EachIsIn, joined_greatest, all_greatest, exponent_in, checked_common}
unfoldable use Rattle.ct_frac.specs.Arithmetic.{checked_wider}
use Rattle.ct_frac.specs.FractionLaws.{EachIsWritten}
use Rattle.ct_frac.specs.Written.{Denominator, Written, AreFactors, one_den}
use Rattle.ct_frac.specs.declared.factor.Factor.{Factor}
unfoldable use Rattle.ct_int.specs.Divisors.{least_common, greatest_common}
use Rattle.ct_ore.specs.Naming.{Naming}
use Rattle.ct_poly.specs.Order.{poly_cmp, poly_tied}
unfoldable use Rattle.ct_poly.specs.Wholes.{checked_whole}
use Rattle.ct_telescoping.proofs.ListParts.{contains_cases, contains_first, contains_later, contains_none, contains_flat_map_cases}
use Rattle.ct_module.specs.Columns.{summed_factors, checked_free_column, checked_free_columns, free_monomials}
unfoldable use Rattle.ct_module.specs.Columns.{summed_denominator, checked_common_denominator}
use Rattle.ct_module.specs.Denominators.{part_of, parts_of, checked_parts, IsFactorOfOne, CollectsFactors}
use Rattle.ct_module.specs.Modules.{WrittenSetting}

all_greatest-append : (done fs gs : List Factor) → all_greatest done (fs ++ gs) ≡ all_greatest (all_greatest done fs) gs
all_greatest-append done [] gs = refl
all_greatest-append done (f ∷ fs) gs = all_greatest-append (joined_greatest f done) fs gs

abbrev over_factors : List Factor → Denominator
over_factors fs = record { whole = 1; factors = fs }

wider_ones : (fs gs : List Factor) → checked_wider (over_factors fs) (over_factors gs) ≡ Ok (over_factors (all_greatest fs gs))
unfolding checked_wider checked_whole verdict least_common greatest_common
wider_ones fs gs = refl

module _ (ns : List Naming) where
  common_parts :
      (fs : List Factor) (ws : List Written) →
      checked_common (over_factors fs) (parts_of ns ws) ≡ Ok (over_factors (all_greatest fs (flat_map (summed_factors ns) ws)))
  common_parts fs [] = refl
  common_parts fs (w ∷ ws) =
      ap (λ r. r >>= (λ e. checked_common e (parts_of ns ws))) (wider_ones fs (summed_factors ns w))
      ∙ common_parts (all_greatest fs (summed_factors ns w)) ws
      ∙ ap (λ gs. Ok (over_factors gs)) (sym (all_greatest-append fs (summed_factors ns w) (flat_map (summed_factors ns) ws)))

  summed_of_parts : (ws : List Written) → checked_common one_den (parts_of ns ws) ≡ Ok (summed_denominator ns ws)
  unfolding summed_denominator
  summed_of_parts ws = common_parts [] ws

  -- ---- the parts of all columns

  abbrev pub flat : List (List Written) → List Written
  flat columns = flat_map (λ column. column) columns

  module _ (f : Mono → Checked (List Written)) where
    -- a column's parts behind those before
    abbrev pub step : List Written → Mono → Checked (List Written)
    step done γ = f γ >>= (λ column. Ok (done ++ parts_of ns column))

    parts_from :
        (done : List Written) (γs : List Mono) (n : ℕ) →
        checked_fold step done γs ≡ (checked_each_from n (λ _ γ. f γ) γs >>= (λ columns. Ok (done ++ parts_of ns (flat columns))))
    parts_from done [] n = ap Ok (sym (append-nil done))
    parts_from done (γ ∷ γs) n = by (f γ) (λ column. parts_from (done ++ parts_of ns column) γs (n + 1))
      where
        more :
            (column : List Written) (r : Checked (List (List Written))) →
            (r >>= (λ columns. Ok ((done ++ parts_of ns column) ++ parts_of ns (flat columns)))) ≡
            ((r >>= (λ columns. Ok (column ∷ columns))) >>= (λ columns. Ok (done ++ parts_of ns (flat columns))))
        more column (Ok columns) =
            ap Ok (append_assoc done (parts_of ns column) (parts_of ns (flat columns))
            ∙ ap (λ ws. done ++ ws) (sym (map-append (part_of ns) column (flat columns))))
        more column (Err e) = refl

        by :
            (r : Checked (List Written)) →
            ((column : List Written) → checked_fold step (done ++ parts_of ns column) γs ≡
            (checked_each_from (n + 1) (λ _ γ. f γ) γs >>= (λ columns. Ok ((done ++ parts_of ns column) ++ parts_of ns (flat columns))))) →
            ((r >>= (λ column. Ok (done ++ parts_of ns column))) >>= (λ t. checked_fold step t γs)) ≡
            ((r >>= (λ column. checked_each_from (n + 1) (λ _ γ. f γ) γs >>= (λ columns. Ok (column ∷ columns))))
            >>= (λ columns. Ok (done ++ parts_of ns (flat columns))))
        by (Ok column) rest = rest column ∙ more column (checked_each_from (n + 1) (λ _ γ. f γ) γs)
        by (Err e) rest = refl

    pub parts_behind :
        (γs : List Mono) → (checked_each f γs >>= (λ columns. Ok (parts_of ns (flat columns)))) ≡ checked_fold step [] γs
    parts_behind γs = sym (parts_from [] γs 1)

pub common_denominator_is :
    (s : WrittenSetting) (r : ℕ) →
    checked_common_denominator s r ≡
    ((checked_free_columns s r >>= (λ columns. Ok (parts_of s.names (flat s.names columns)))) >>= checked_common one_den)
unfolding checked_common_denominator
common_denominator_is s r = by (checked_free_columns s r)
  where
    by :
        (c : Checked (List (List Written))) → (c >>= (λ columns. Ok (summed_denominator s.names (flat s.names columns)))) ≡
        ((c >>= (λ columns. Ok (parts_of s.names (flat s.names columns)))) >>= checked_common one_den)
    by (Ok columns) = sym (summed_of_parts s.names (flat s.names columns))
    by (Err e) = refl

-- what refuses the parts refuses the denominator
pub parts_refused :
    (s : WrittenSetting) (r : ℕ) (γs : List Mono) (fault : Fault) → γs ≡ free_monomials s.names r →
    IfSome (kind_of fault) (λ kind. checked_parts s γs ≡ Err kind) → IfSome (kind_of fault) (λ kind. checked_common_denominator s r ≡ Err kind)
parts_refused s r γs (Overflow kind) same refused =
    common_denominator_is s r ∙ ap (λ c. c >>= checked_common one_den) (ap (checked_parts s) (sym same) ∙ refused)
parts_refused s r γs NoMemory same refused = tt

pub parts_made :
    (s : WrittenSetting) (r : ℕ) (γs : List Mono) (parts : List Written) → γs ≡ free_monomials s.names r → checked_parts s γs ≡ Ok parts →
    checked_common_denominator s r ≡ checked_common one_den parts
parts_made s r γs parts same made = common_denominator_is s r ∙ ap (λ c. c >>= checked_common one_den) (ap (checked_parts s) (sym same) ∙ made)

-- ---- what is collected

max_cases : (m n : ℕ) → (max m n ≡ m) ⊎ (max m n ≡ n)
max_cases m n = by (cases_order m n)
  where
    by : (m ≡ n) ⊎ ((m < n) ⊎ (n < m)) → (max m n ≡ m) ⊎ (max m n ≡ n)
    by (inl same) = inl (omega arith)
    by (inr (inl less)) = inr (omega arith)
    by (inr (inr more)) = inl (omega arith)

joined_cases : (f g : Factor) (fs : List Factor) → Contains (joined_greatest f fs) g → (f ≡ g) ⊎ Contains fs g
joined_cases f g [] found = contains_cases f g [] found
joined_cases f g (h ∷ hs) found = by (poly_cmp h.poly f.poly) refl (joined_cases f g hs) found
  where
    later : (f ≡ g) ⊎ Contains hs g → (f ≡ g) ⊎ Contains (h ∷ hs) g
    later (inl same) = inl same
    later (inr there) = inr (contains_later h g hs there)

    less : (h ≡ g) ⊎ Contains (joined_greatest f hs) g → (Contains (joined_greatest f hs) g → (f ≡ g) ⊎ Contains hs g) → (f ≡ g) ⊎ Contains (h ∷ hs) g
    less (inl same) rest = inr (subst (Contains (h ∷ hs)) same (contains_first h hs))
    less (inr there) rest = later (rest there)

    both : Factor
    both = record { poly = h.poly; exp = max h.exp f.exp }

    greater : h.poly ≡ f.poly → both ≡ g → (max h.exp f.exp ≡ h.exp) ⊎ (max h.exp f.exp ≡ f.exp) → (f ≡ g) ⊎ Contains (h ∷ hs) g
    greater same is (inl mine) =
        inr (subst (Contains (h ∷ hs)) (ap (λ e. record { poly = h.poly; exp = e }) (sym mine) ∙ is) (contains_first h hs))
    greater same is (inr its) = inl (ap₂ (λ p e. record { poly = p; exp = e }) (sym same) (sym its) ∙ is)

    equal : h.poly ≡ f.poly → (both ≡ g) ⊎ Contains hs g → (f ≡ g) ⊎ Contains (h ∷ hs) g
    equal same (inl is) = greater same is (max_cases h.exp f.exp)
    equal same (inr there) = inr (contains_later h g hs there)

    by :
        (o : Ordering) → poly_cmp h.poly f.poly ≡ o → (Contains (joined_greatest f hs) g → (f ≡ g) ⊎ Contains hs g) →
        Contains (by_order o (h ∷ joined_greatest f hs) (both ∷ hs) (f ∷ h ∷ hs)) g → (f ≡ g) ⊎ Contains (h ∷ hs) g
    by Less told rest found = less (contains_cases h g (joined_greatest f hs) found) rest
    by Equal told rest found = equal (poly_tied h.poly f.poly told) (contains_cases both g hs found)
    by Greater told rest found = contains_cases f g (h ∷ hs) found

all_cases : (done fs : List Factor) (g : Factor) → Contains (all_greatest done fs) g → Contains done g ⊎ Contains fs g
all_cases done [] g found = inl found
all_cases done (f ∷ fs) g found = by (all_cases (joined_greatest f done) fs g found)
  where
    first : (f ≡ g) ⊎ Contains done g → Contains done g ⊎ Contains (f ∷ fs) g
    first (inl same) = inr (subst (Contains (f ∷ fs)) same (contains_first f fs))
    first (inr there) = inl there

    by : Contains (joined_greatest f done) g ⊎ Contains fs g → Contains done g ⊎ Contains (f ∷ fs) g
    by (inl joined) = first (joined_cases f g done joined)
    by (inr there) = inr (contains_later f g fs there)

module _ (ns : List Naming) where
  all_grown :
      (p : Polynomial) (ws : List Written) (done : List Factor) → AreFactors done → EachIsWritten (parts_of ns ws) →
      exponent_in p done ≤ exponent_in p (all_greatest done (flat_map (summed_factors ns) ws))
  all_grown p [] done are each = omega arith
  all_grown p (w ∷ ws) done are each =
      let mine = summed_factors ns w in
      let here = all_grow p done mine are each.0.den.factors in
      let rest = all_grown p ws (all_greatest done mine) (all_greatest_factors done mine are each.0.den.factors) each.1 in
      let same = ap (exponent_in p) (all_greatest-append done mine (flat_map (summed_factors ns) ws)) in
      omega arith

  all_in :
      (ws : List Written) (done : List Factor) → AreFactors done → EachIsWritten (parts_of ns ws) →
      All (λ w. EachIsIn (summed_factors ns w) (all_greatest done (flat_map (summed_factors ns) ws))) ws
  all_in [] done are each = All-nil (λ w. EachIsIn (summed_factors ns w) done)
  all_in (w ∷ ws) done are each =
      let mine = summed_factors ns w in
      let all = all_greatest (all_greatest done mine) (flat_map (summed_factors ns) ws) in
      let kept = all_greatest_factors done mine are each.0.den.factors in
      subst (λ fs. All (λ w. EachIsIn (summed_factors ns w) fs) (w ∷ ws)) (sym (all_greatest-append done mine (flat_map (summed_factors ns) ws)))
      (All-cons (λ w. EachIsIn (summed_factors ns w) all) w ws
      (EachIsIn-grown mine (all_greatest done mine) all (all_stand done mine are each.0.den.factors)
      (λ p. all_grown p ws (all_greatest done mine) kept each.1))
      (all_in ws (all_greatest done mine) kept each.1))

  pub collects : (ws : List Written) → EachIsWritten (parts_of ns ws) → CollectsFactors ns ws (summed_denominator ns ws)
  unfolding summed_denominator
  collects ws each = record {
    whole = refl;
    enough = all_in ws [] tt each;
    no_more =
        let all = all_greatest [] (flat_map (summed_factors ns) ws) in
        All-weaker (Contains all) (IsFactorOfOne ns ws) (λ f found. by f (all_cases [] (flat_map (summed_factors ns) ws) f found)) all
        (All-contains_itself all);
  }
    where
      by : (f : Factor) → Contains [] f ⊎ Contains (flat_map (summed_factors ns) ws) f → IsFactorOfOne ns ws f
      by f (inl none) = absurd (contains_none f none)
      by f (inr there) =
          let part = contains_flat_map_cases (summed_factors ns) ws f there in
          record { fraction = part.of; stands = part.found; factor = part.inside }

pub common_collects :
    (s : WrittenSetting) (r : ℕ) (γs : List Mono) (parts : List Written) (d : Denominator) → γs ≡ free_monomials s.names r →
    checked_parts s γs ≡ Ok parts → EachIsWritten parts → checked_common one_den parts ≡ Ok d →
    (columns : List (List Written)) → checked_free_columns s r ≡ Ok columns → CollectsFactors s.names (flat s.names columns) d
common_collects s r γs parts d same made written answer columns there =
    let those : Ok (parts_of s.names (flat s.names columns)) ≡ Ok parts =
    sym (ap (λ c. c >>= (λ columns. Ok (parts_of s.names (flat s.names columns)))) there) ∙ ap (checked_parts s) (sym same) ∙ made in
    let are = same_ok (parts_of s.names (flat s.names columns)) parts those in
    let denominator = same_ok (summed_denominator s.names (flat s.names columns)) d
    (sym (summed_of_parts s.names (flat s.names columns)) ∙ ap (checked_common one_den) are ∙ answer) in
    subst (CollectsFactors s.names (flat s.names columns)) denominator
    (collects s.names (flat s.names columns) (subst EachIsWritten (sym are) written))
