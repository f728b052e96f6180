-- The columns of an attempt: what a telescoper and its certificates are sums over (Koutschan 2010).
--     Column                 a telescoper's monomial; or, of the certificate of a summed name, a staircase element and a
--                            monomial in the summed names
--     column_at cs i         the column with a number
--     certificate_columns    for each summed name, each element and each power one column
--     monomials_in js n      the monomials in the names js of total at most n, rising
--     free_names a summed    the names with operators that are not summed
--     columns_of_support     the columns of an order and a degree: those of certificates, and then the telescoper's monomials
--     certificate_count      how many of these are of certificates
--     IsColumnOf             what these are: the monomials in free names of total at most the order; and each summed name's
--                            elements and monomials in the summed names of total at most the degree
--     IsOfTelescoper         the column is a telescoper's monomial
-- That `columns_of_support` has each column of `IsColumnOf` once and no other is the law `columns_are_of_support`.
use Rattle.std.specs.Prelude.{◌≡◌, ℕ, ◌<◌, ◌≤◌, Bool, true, false, cond, List, ◌++◌, length, map, get_or}
use Rattle.std.specs.List.{Contains, filter, flat_map}
use Rattle.ct_algebra.specs.Terms.{by_order}
use Rattle.ct_algebra.specs.Coefficients.{is_chosen, inside}
use Rattle.ct_algebra.specs.CoefficientLaws.{IsIn}
use Rattle.ct_algebra.specs.Monomial.{Mono, unit, total, mono_cmp}
use Rattle.ct_algebra.specs.Names.{Name, place}
use Rattle.ct_algebra.specs.Actions.{Action, by_action}
use Rattle.ct_telescoping.specs.Staircase.{IsElement}
use Rattle.ct_telescoping.specs.Rising.{all_names, up_to}
use Rattle.ct_telescoping.specs.NoTelescoper.{IsFreeMonomial}

pub data Column : Type 0 where
  OfMonomial : Mono → Column
  OfSummand : Name → Mono → Mono → Column

-- the column with a number; past the end, that of the monomial 1
abbrev pub column_at : List Column → ℕ → Column
column_at columns i = get_or columns i (OfMonomial unit)

-- ---- the list of columns

-- those of a summed name
abbrev pub columns_of_name : List Mono → List Mono → Name → List Column
columns_of_name elements powers j = flat_map (λ b. map (λ e. OfSummand j b e) powers) elements

-- those of the summed names
abbrev pub certificate_columns : List Mono → List Mono → List Name → List Column
certificate_columns elements powers summed = flat_map (columns_of_name elements powers) summed

-- whether a monomial has no name but those of a list
abbrev pub is_in : List Name → Mono → Bool
is_in js m = by_order (mono_cmp (inside js m) m) false true false

abbrev pub monomials_in : List Name → ℕ → List Mono
monomials_in js n = up_to (is_in js) n

abbrev pub is_free_name : (Name → Action) → List Name → Name → Bool
is_free_name a summed i = cond (is_chosen summed (place i)) false (by_action (a i) true true false)

abbrev pub free_names : (Name → Action) → List Name → List Name
free_names a summed = filter (is_free_name a summed) all_names

abbrev pub columns_of_support : (Name → Action) → List Name → List Mono → ℕ → ℕ → List Column
columns_of_support a summed elements order degree =
    certificate_columns elements (monomials_in summed degree) summed ++ map OfMonomial (monomials_in (free_names a summed) order)

-- how many of these are of certificates; they come first
abbrev pub certificate_count : List Name → List Mono → ℕ → ℕ
certificate_count summed elements degree = length (certificate_columns elements (monomials_in summed degree) summed)

abbrev pub IsColumnOf : (Name → Action) → List Name → (d : ℕ) → (ℕ → Mono) → (order degree : ℕ) → Column → Type 0
IsColumnOf a summed d element order degree (OfMonomial m) = (total m ≤ order) × IsFreeMonomial a summed m
IsColumnOf a summed d element order degree (OfSummand j b e) =
    (Contains summed j × IsElement d element b) × ((total e ≤ degree) × IsIn summed e)

-- ---- what columns are

abbrev pub IsOfTelescoper : Column → Type 0
IsOfTelescoper (OfMonomial m) = Unit {0}
IsOfTelescoper (OfSummand j b e) = ⊥

-- column i of m is this one
pub record IsListed (m : ℕ) (column : ℕ → Column) (c : Column) : Type 0 where
  pub index : ℕ
  pub in_range : index < m
  pub is : column index ≡ c

-- no column is listed twice
abbrev pub AreDistinct : ℕ → (ℕ → Column) → Type 0
AreDistinct m column = (i j : ℕ) → i < m → j < m → column i ≡ column j → i ≡ j
