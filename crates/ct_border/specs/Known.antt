-- Normal forms that were worked.
--     IsWorked a gs ms m w         the steps of the monomial give the vector, which has an entry for each element and means the normal form
--     IsKnown a gs ms e            the form of an entry is that of its monomial
--     form_at es place             the form at a place of the list
--     IsStored a gs ms es m place  the list has the form of the monomial at the place, and all its forms are those of their monomials
--     place_of es m                where a monomial stands first
use Rattle.std.specs.Prelude.{◌≡◌, ℕ, ◌+◌, ◌<◌, Ok, None, Some, Option, List, [], ◌∷◌, length, map, get_or, cond}
use Rattle.std.specs.List.{All}
use Rattle.ct_algebra.specs.Actions.{Action}
use Rattle.ct_algebra.specs.Monomial.{Mono}
use Rattle.ct_algebra.specs.Names.{Name}
use Rattle.ct_algebra.specs.Operators.{Operator}
use Rattle.ct_frac.specs.Written.{Written}
use Rattle.ct_mono.specs.Equal.{mono_eq}
use Rattle.ct_border.specs.Build.{checked_form}
use Rattle.ct_border.specs.BuildMeans.{IsFormOf}
use Rattle.ct_border.specs.declared.forms.Known.{Known}

pub record IsWorked (a : Name → Action) (generators : List Operator) (ms : List Mono) (m : Mono) (w : List Written) : Type 0 where
  pub steps : checked_form a generators ms m ≡ Ok w
  pub size : length w ≡ length ms
  pub means : IsFormOf a generators ms m w

abbrev pub IsKnown : (Name → Action) → List Operator → List Mono → Known → Type 0
IsKnown a generators ms e = IsWorked a generators ms e.mono e.form.items

abbrev pub form_at : List Known → ℕ → List Written
form_at es place = get_or (map (λ e. e.form.items) es) place []

pub record IsStored (a : Name → Action) (generators : List Operator) (ms : List Mono) (es : List Known) (m : Mono) (place : ℕ) : Type 0 where
  pub within : place < length es
  pub form : IsWorked a generators ms m (form_at es place)
  pub known : All (IsKnown a generators ms) es

abbrev pub place_from : ℕ → List Known → Mono → Option ℕ
place_from k [] m = None
place_from k (e ∷ es) m = cond (mono_eq e.mono m) (Some k) (place_from (k + 1) es m)

abbrev pub place_of : List Known → Mono → Option ℕ
place_of es m = place_from 0 es m
