-- The action of a name and the rows of a module, as code reads them: main lemmas `info_action`, `filled_in` and `rows_at`.
use Rattle.ct_module.proofs.Base.{◌≡◌, refl, sym, ◌∙◌, ap, subst, arith, ℕ, zero, suc, ◌<◌, List, [], ◌∷◌, length, map, get_or, name_with, place, place-name_with}
use Rattle.std.proofs.lemmas.List.{get_or-map, length-map}
use Rattle.std.specs.Global.{Vec}
use Rattle.std.specs.List.{All}
use Rattle.ct_algebra.specs.Actions.{Still}
use Rattle.ct_frac.specs.Written.{Written}
use Rattle.ct_ore.specs.Naming.{Naming, action_of, actions_of, namings_of}
use Rattle.ct_ore.specs.declared.algebra.NameInfo.{NameInfo}
use Rattle.ct_module.specs.Views.{rows_in, lists_in}

pub info_action :
    (ns : List Naming) (infos : List NameInfo) (info d : NameInfo) (i : ℕ) → i < 6 → i < length infos → namings_of infos ≡ ns →
    info ≡ get_or infos i d → action_of info.action ≡ actions_of ns (name_with i)
unfolding actions_of
info_action ns infos info d i known within names is =
    ap (λ (n : NameInfo). action_of n.action) is ∙ sym (go infos i d within)
    ∙ ap (λ (ns : List Naming). get_or (map (λ (n : Naming). n.action) ns) i Still) names
    ∙ ap (λ k. get_or (map (λ (n : Naming). n.action) ns) k Still) (sym (place-name_with i known))
  where
    go :
        (infos : List NameInfo) (i : ℕ) (d : NameInfo) → i < length infos →
        get_or (map (λ (n : Naming). n.action) (namings_of infos)) i Still ≡ action_of (get_or infos i d).action
    go [] i d within = absurd (omega (arith, within))
    go (n ∷ ns) zero d within = refl
    go (n ∷ ns) (suc i) d within = go ns i d (omega (arith, within))

pub filled_in :
    (rows : List (Vec Written)) (all : List (List Written)) (n m : ℕ) → rows_in rows ≡ all → m ≡ n → All (λ row. length row ≡ m) all →
    All (λ row. length row.items ≡ n) rows
filled_in rows all n m is same each k d within =
    ap length (sym (get_or-map (λ (row : Vec Written). row.items) rows k d d.items within))
    ∙ subst (All (λ row. length row ≡ m)) (sym is) each k d.items (subst (λ l. k < l) (sym (length-map rows (λ (row : Vec Written). row.items))) within)
    ∙ same

-- the rows of the name with a number
pub rows_at :
    (lists : List (Vec (Vec Written))) (rows : Vec (Vec Written)) (i : ℕ) → i < 6 → i < length lists → rows ≡ get_or lists i rows →
    rows_in rows.items ≡ get_or (lists_in lists) (place (name_with i)) []
rows_at lists rows i known within is =
    ap (λ (rs : Vec (Vec Written)). rows_in rs.items) is ∙ sym (get_or-map (λ (rs : Vec (Vec Written)). rows_in rs.items) lists i rows [] within)
    ∙ ap (λ k. get_or (lists_in lists) k []) (sym (place-name_with i known))
