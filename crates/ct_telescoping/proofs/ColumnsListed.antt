-- The list of the columns of a support: main lemmas `columns_distinct` (none is listed twice), `columns_sound` and
-- `columns_complete` (it has what `IsColumnOf` says), and `support_has_shape`: a certificate of the support has only terms
-- that are listed. From the number of the certificates' columns on, the columns are the telescoper's.
use Rattle.ct_telescoping.proofs.Base.{◌≡◌, ℕ, zero, suc, ◌+◌, ◌-◌, ◌<◌, ◌≤◌, List, [], ◌∷◌, ◌++◌, length, map, get_or, ◌⊎◌, Contains, sym, ◌∙◌, ap}
use Rattle.ct_telescoping.proofs.Base.{subst, arith, inl, inr, get_or_default, get_or_append_left, get_or-append_right, Contains-append_left}
use Rattle.ct_telescoping.proofs.Base.{Contains-append_right, Contains-append_cases, Contains-get_or, EachTerm-weaker, inside, Mono, unit, Name}
use Rattle.ct_telescoping.proofs.Base.{Action, Certificate, inside_within}
use Rattle.std.specs.Prelude.{refl}
use Rattle.ct_telescoping.specs.Vector.{listed}
use Rattle.ct_telescoping.specs.Rising.{IsOnce}
use Rattle.ct_telescoping.specs.NoTelescoper.{IsOfSupport}
use Rattle.ct_telescoping.specs.Columns.{Column, OfMonomial, OfSummand, column_at, columns_of_name, certificate_columns, monomials_in, free_names}
use Rattle.ct_telescoping.specs.Columns.{columns_of_support, IsColumnOf, IsOfTelescoper, IsListed, AreDistinct}
use Rattle.ct_telescoping.proofs.ListParts.{contains_map, contains_map_cases, contains_flat_map, contains_flat_map_cases, once_append, once_map}
use Rattle.ct_telescoping.proofs.ListParts.{once_flat_map, once_at}
use Rattle.ct_telescoping.proofs.OrderedLists.{listed_contains, contains_listed}
use Rattle.ct_telescoping.proofs.RisingLists.{once_of_rises}
use Rattle.ct_telescoping.proofs.NamesIn.{contained_each, monomials_in-listing, IsIn-free, free-IsIn}
use Rattle.ct_telescoping.proofs.RefutedHasNone.{each_summand}
use Rattle.ct_telescoping.proofs.ShapeWeights.{HasShape}

-- ---- the elements

once_listed :
    (element : ℕ → Mono) (d : ℕ) → ((i j : ℕ) → i < d → j < d → element i ≡ element j → i ≡ j) → (k n : ℕ) → k + n ≤ d →
    IsOnce (listed element k n)
once_listed element d distinct k zero small = tt
once_listed element d distinct k (suc n) small = (
  λ found. let r = listed_contains element (suc k) n (element k) found in
      clash (distinct k r.0 (omega (arith, small)) (omega (arith, small, r.2)) r.3) r.1,
  once_listed element d distinct (suc k) n (omega (arith, small)),
)
  where
    clash : {i : ℕ} → k ≡ i → suc k ≤ i → ⊥
    clash e l = absurd (omega (arith, e, l))

-- ---- columns of certificates

abbrev element_of : Column → Mono
element_of (OfMonomial m) = m
element_of (OfSummand j b e) = b

abbrev power_of : Column → Mono
power_of (OfMonomial m) = m
power_of (OfSummand j b e) = e

abbrev name_of : Name → Column → Name
name_of past (OfMonomial m) = past
name_of past (OfSummand j b e) = j

module _ (elements powers : List Mono) where
  pub record IsCertificateColumn (j : Name) (c : Column) : Type 0 where
    pub element : Mono
    pub power : Mono
    pub element_found : Contains elements element
    pub power_found : Contains powers power
    pub is : OfSummand j element power ≡ c

  name_cases : (j : Name) (c : Column) → Contains (columns_of_name elements powers j) c → IsCertificateColumn j c
  name_cases j c found =
      let part = contains_flat_map_cases (λ b. map (λ e. OfSummand j b e) powers) elements c found in
      let image = contains_map_cases (λ e. OfSummand j part.of e) powers c part.inside in
      record { element = part.of; power = image.of; element_found = part.found; power_found = image.found; is = image.is }

  name_has : (j : Name) (b e : Mono) → Contains elements b → Contains powers e → Contains (columns_of_name elements powers j) (OfSummand j b e)
  name_has j b e found also =
      contains_flat_map (λ b. map (λ e. OfSummand j b e) powers) elements b (OfSummand j b e) found
      (contains_map (λ e. OfSummand j b e) powers e also)

  pub certificate_cases :
      (summed : List Name) (c : Column) → Contains (certificate_columns elements powers summed) c →
      (j : Name) × Contains summed j × IsCertificateColumn j c
  certificate_cases summed c found =
      let part = contains_flat_map_cases (columns_of_name elements powers) summed c found in
      (part.of, part.found, name_cases part.of c part.inside)

  certificate_has :
      (summed : List Name) (j : Name) (b e : Mono) → Contains summed j → Contains elements b → Contains powers e →
      Contains (certificate_columns elements powers summed) (OfSummand j b e)
  certificate_has summed j b e there found also =
      contains_flat_map (columns_of_name elements powers) summed j (OfSummand j b e) there (name_has j b e found also)

  module _ (once_elements : IsOnce elements) (once_powers : IsOnce powers) where
    once_name : (j : Name) → IsOnce (columns_of_name elements powers j)
    once_name j =
        once_flat_map (λ b. map (λ e. OfSummand j b e) powers)
        (λ b. once_map (λ e. OfSummand j b e) (λ e f same. ap power_of same) powers once_powers)
        (λ b f c here there.
        let first = contains_map_cases (λ e. OfSummand j b e) powers c here in
        let second = contains_map_cases (λ e. OfSummand j f e) powers c there in
        ap element_of (first.is ∙ sym second.is))
        elements once_elements

    once_certificates : (summed : List Name) → IsOnce summed → IsOnce (certificate_columns elements powers summed)
    once_certificates summed once =
        once_flat_map (columns_of_name elements powers) once_name
        (λ i j c here there. ap (name_of i) ((name_cases i c here).is ∙ sym (name_cases j c there).is)) summed once

    pub once_columns :
        (summed : List Name) (free : List Mono) → IsOnce summed → IsOnce free →
        IsOnce (certificate_columns elements powers summed ++ map OfMonomial free)
    once_columns summed free once once_free =
        once_append (certificate_columns elements powers summed) (map OfMonomial free) (once_certificates summed once)
        (once_map OfMonomial (λ m k same. ap element_of same) free once_free)
        (λ c early late. different c (certificate_cases summed c early).2.is (contains_map_cases OfMonomial free c late).is)
      where
        different : (c : Column) {j : Name} {b e m : Mono} → OfSummand j b e ≡ c → OfMonomial m ≡ c → ⊥
        different c first second = cc

-- ---- the columns of a support

module _ (a : Name → Action) (summed : List Name) (d : ℕ) (element : ℕ → Mono) (order degree : ℕ) where
  abbrev columns : List Column
  columns = columns_of_support a summed (listed element 0 d) order degree

  abbrev powers_listed : List Mono
  powers_listed = monomials_in summed degree

  abbrev free_listed : List Mono
  free_listed = monomials_in (free_names a summed) order

  pub columns_distinct :
      IsOnce summed → ((i j : ℕ) → i < d → j < d → element i ≡ element j → i ≡ j) → AreDistinct (length columns) (column_at columns)
  columns_distinct once distinct i j l m same =
      once_at columns (OfMonomial unit)
      (once_columns (listed element 0 d) powers_listed (once_listed element d distinct 0 d (omega arith))
      (once_of_rises powers_listed (monomials_in-listing summed degree).rises) summed free_listed once
      (once_of_rises free_listed (monomials_in-listing (free_names a summed) order).rises))
      i j l m same

  is_column : (c : Column) → Contains columns c → IsColumnOf a summed d element order degree c
  is_column c found =
      by (Contains-append_cases (certificate_columns (listed element 0 d) powers_listed summed) (map OfMonomial free_listed) c found)
    where
      by : Contains (certificate_columns (listed element 0 d) powers_listed summed) c ⊎ Contains (map OfMonomial free_listed) c →
          IsColumnOf a summed d element order degree c
      by (inl early) =
          let r = certificate_cases (listed element 0 d) powers_listed summed c early in
          let at = listed_contains element 0 d r.2.element r.2.element_found in
          let low = (monomials_in-listing summed degree).sound r.2.power r.2.power_found in
          subst (IsColumnOf a summed d element order degree) r.2.is
          ((r.1, record { place = at.0; in_range = omega (arith, at.2); is = at.3 }), low)
      by (inr late) =
          let image = contains_map_cases OfMonomial free_listed c late in
          let low = (monomials_in-listing (free_names a summed) order).sound image.of image.found in
          subst (IsColumnOf a summed d element order degree) image.is (low.0, IsIn-free a summed image.of low.1)

  pub columns_sound :
      (i : ℕ) → i < length columns → IsColumnOf a summed d element order degree (column_at columns i)
  columns_sound i l = is_column (column_at columns i) (Contains-get_or columns i (OfMonomial unit) l)

  has_column : (c : Column) → IsColumnOf a summed d element order degree c → Contains columns c
  has_column (OfMonomial m) is =
      Contains-append_right (certificate_columns (listed element 0 d) powers_listed summed) (map OfMonomial free_listed) (OfMonomial m)
      (contains_map OfMonomial free_listed m
      ((monomials_in-listing (free_names a summed) order).complete m (is.0, free-IsIn a summed m is.1)))
  has_column (OfSummand j b e) is =
      Contains-append_left (certificate_columns (listed element 0 d) powers_listed summed) (map OfMonomial free_listed) (OfSummand j b e)
      (certificate_has (listed element 0 d) powers_listed summed j b e is.0.0
      (subst (Contains (listed element 0 d)) (sym is.0.1.is)
      (contains_listed element 0 d is.0.1.place (omega arith) (omega (arith, is.0.1.in_range))))
      ((monomials_in-listing summed degree).complete e is.1))

  pub columns_complete :
      (c : Column) → IsColumnOf a summed d element order degree c → IsListed (length columns) (column_at columns) c
  columns_complete c is =
      let found = has_column c is in
      record { index = found.0; in_range = found.1; is = get_or_default columns found.0 (OfMonomial unit) c found.1 ∙ found.2 }

  pub support_has_shape :
      (c : Certificate) → map (λ s. s.name) c.summands ≡ summed → IsOfSupport a summed d element order degree c →
      HasShape summed (length columns) (column_at columns) c
  support_has_shape c names support = record {
    telescoper = EachTerm-weaker (λ m w is. (columns_complete (OfMonomial m) is.0, is.1)) c.telescoper.terms support.telescoper;
    numerators = λ k past below.
        EachTerm-weaker (λ b w is.
        EachTerm-weaker (λ n z low. columns_complete (OfSummand _ b (inside summed n)) (
          (each_summand (Contains summed) c summed names (contained_each (Contains summed) summed (λ j found. found)) k past below, is.0),
          (low, inside_within summed n),
        )) w.terms is.1)
        _ (support.numerators k past below);
  }

  -- ---- those of certificates come first

  abbrev certificates : List Column
  certificates = certificate_columns (listed element 0 d) powers_listed summed

  pub telescopers_from :
      (i : ℕ) → i < length columns → IsOfTelescoper (column_at columns i) → length certificates ≤ i
  telescopers_from i l of_telescoper = by (ordered i (length certificates))
    where
      ordered : (x y : ℕ) → (x < y) ⊎ (y ≤ x)
      ordered x y = grind arith

      not_certificate : (c : Column) {j : Name} {b e : Mono} → OfSummand j b e ≡ c → IsOfTelescoper c → ⊥
      not_certificate (OfMonomial m) is of_it = cc
      not_certificate (OfSummand j b e) is of_it = of_it

      by : (i < length certificates) ⊎ (length certificates ≤ i) → length certificates ≤ i
      by (inr from) = from
      by (inl early) =
          let at = get_or certificates i (OfMonomial unit) in
          let r = certificate_cases (listed element 0 d) powers_listed summed at (Contains-get_or certificates i (OfMonomial unit) early) in
          absurd (not_certificate at r.2.is
          (subst IsOfTelescoper (get_or_append_left certificates (map OfMonomial free_listed) (OfMonomial unit) i early) of_telescoper))

  pub from_telescopers :
      (i : ℕ) → i < length columns → length certificates ≤ i → IsOfTelescoper (column_at columns i)
  from_telescopers i l from =
      subst IsOfTelescoper (sym (get_or-append_right certificates (map OfMonomial free_listed) (length certificates) i (OfMonomial unit) refl from))
      (each free_listed (i - length certificates))
    where
      each : (ms : List Mono) (k : ℕ) → IsOfTelescoper (get_or (map OfMonomial ms) k (OfMonomial unit))
      each [] k = tt
      each (m ∷ ms) zero = tt
      each (m ∷ ms) (suc k) = each ms k
