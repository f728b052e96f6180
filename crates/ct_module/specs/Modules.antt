-- Finite modules whose fractions are written, and the settings in which columns are formed.
--     WrittenModule         a list of elements; for each declared name, a row of entries for each element; and a start
--     WrittenSetting        what is known of the names; a module over them; and for each name the polynomial that its denominator is
--                           made of, where one is given
--     dimension m           how many elements there are
--     rows_of m i, row_of m i b     the rows of a name, and the one of an element
--     entry v b             an entry of a vector
--     den_of dens i         the polynomial of a name, where one is given
-- A row is what the symbol of its name makes of its element. Past the end of a list there is nothing, or zero.
use Rattle.std.specs.Coded.{Coded, code_by, coded×, coded_list, coded_option}
use Rattle.std.specs.Prelude.{ℕ, None, List, [], length, get_or, refl}
use Rattle.std.proofs.Common.{Option}
use Rattle.ct_algebra.specs.Monomial.{Mono, mono_code}
use Rattle.ct_algebra.specs.Names.{Name, place}
use Rattle.ct_algebra.specs.Polynomial.{Polynomial, poly_code, polys}
use Rattle.ct_frac.specs.Written.{Written, written_code, whole_polynomial}
use Rattle.ct_ore.specs.Naming.{Naming}

pub record WrittenModule : Type 0 where
  pub basis : List Mono
  pub rows : List (List (List Written))
  pub start : List Written

pub record WrittenSetting : Type 0 where
  pub names : List Naming
  pub space : WrittenModule
  pub dens : List (Option Polynomial)

-- their codes, for types that are seen as these
abbrev pub module_code : Coded WrittenModule
module_code =
    code_by (List Mono × (List (List (List Written)) × List Written))
    (coded× (coded_list mono_code) (coded× (coded_list (coded_list (coded_list written_code))) (coded_list written_code)))
    (λ m. (m.basis, (m.rows, m.start))) (λ p. record { basis = p.0; rows = p.1.0; start = p.1.1 }) (λ _. refl)

abbrev pub setting_code : Coded (List Naming) → Coded WrittenSetting
setting_code names_code =
    code_by (List Naming × (WrittenModule × List (Option Polynomial)))
    (coded× names_code (coded× module_code (coded_list (coded_option poly_code))))
    (λ s. (s.names, (s.space, s.dens))) (λ p. record { names = p.0; space = p.1.0; dens = p.1.1 }) (λ _. refl)

abbrev pub written_zero : Written
written_zero = whole_polynomial polys.zero

abbrev pub dimension : WrittenModule → ℕ
dimension m = length m.basis

abbrev pub rows_of : WrittenModule → Name → List (List Written)
rows_of m i = get_or m.rows (place i) []

abbrev pub row_of : WrittenModule → Name → ℕ → List Written
row_of m i b = get_or (rows_of m i) b []

abbrev pub entry : List Written → ℕ → Written
entry v b = get_or v b written_zero

abbrev pub den_of : List (Option Polynomial) → Name → Option Polynomial
den_of dens i = get_or dens (place i) None
