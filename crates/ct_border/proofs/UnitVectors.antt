-- Unit vectors as they are written. Main lemmas `unit_at-vector`, and `unit_at-means`: it is the normal form of an element.
use Rattle.ct_border.proofs.Base.{◌≡◌, ◌<◌, ◌∙◌, ℕ, Bool, true, false, List, cond, eqb, length, sym, ap, Action, Name, Mono, unit}
use Rattle.ct_border.proofs.Base.{Operator, mono_eq, mono_eq_decides, IsIrreducible, polys, once_of_rises}
use Rattle.std.proofs.lemmas.Bool.Decides.{same_from_decides, Decides-eqb}
use Rattle.std.proofs.lemmas.List.{get_or-map}
use Rattle.ct_algebra.specs.Field.{field}
use Rattle.ct_frac.proofs.Fractions.{whole-value}
use Rattle.ct_frac.specs.Written.{value}
use Rattle.ct_module.specs.Modules.{written_zero}
use Rattle.ct_module.specs.Values.{values, vector_of}
use Rattle.ct_telescoping.proofs.ListParts.{once_at}
use Rattle.ct_telescoping.proofs.StaircaseGrows.{IsStaircaseOf-listing}
use Rattle.ct_telescoping.specs.Rising.{IsOnce}
use Rattle.ct_telescoping.specs.Staircase.{HasOperators}
use Rattle.ct_telescoping.specs.Vector.{same_vector, entry-vector, entry-unit_vector, unit_vector}
use Rattle.ct_border.specs.Build.{written_one, unit_at}
use Rattle.ct_border.specs.BuildMeans.{element_at, IsFormOf}
use Rattle.ct_border.specs.StaircaseMeans.{HasStaircase}

pub unit_at-vector :
    (ms : List Mono) (m : Mono) (k : ℕ) → IsOnce ms → k < length ms → element_at ms k ≡ m →
    vector_of (length ms) (unit_at ms m) ≡ unit_vector field (length ms) k
unit_at-vector ms m k once within is =
    same_vector field.group (length ms) _ _ (λ c small.
    entry-vector field.group (length ms) (values (unit_at ms m)) c small
    ∙ ap value (get_or-map (λ e. cond (mono_eq e m) written_one written_zero) ms c unit written_zero small)
    ∙ ap (λ b. value (cond b written_one written_zero)) (same c small) ∙ by (eqb c k)
    ∙ sym (entry-unit_vector field (length ms) k c small))
  where
    same : (c : ℕ) → c < length ms → mono_eq (element_at ms c) m ≡ eqb c k
    same c small =
        let decides = mono_eq_decides (element_at ms c) m in
        same_from_decides {P = c ≡ k} _ _
        (λ equal. once_at ms unit once c k small within (decides.0 equal ∙ sym is), λ e. decides.1 (ap (element_at ms) e ∙ is))
        (Decides-eqb c k)

    by : (b : Bool) → value (cond b written_one written_zero) ≡ cond b field.one field.zero
    by true = whole-value polys.one
    by false = whole-value polys.zero

pub unit_at-means :
    (a : Name → Action) (generators : List Operator) (ms : List Mono) (m : Mono) → HasStaircase a generators ms → HasOperators a m →
    IsIrreducible generators m → IsFormOf a generators ms m (unit_at ms m)
unit_at-means a generators ms m staircase has irreducible forms normal =
    let at = (IsStaircaseOf-listing a generators ms staircase.listing).complete m has irreducible in
    unit_at-vector ms m at.place (once_of_rises ms staircase.listing.rises) at.in_range (sym at.is)
    ∙ sym (normal.elements at.place at.in_range) ∙ ap forms (sym at.is)
