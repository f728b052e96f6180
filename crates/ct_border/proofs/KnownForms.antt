-- The list of normal forms that were worked. Main lemmas `found_stored`, for a monomial that stands in it; `appended_stored`, for one that
-- is put behind all others; and `form_there`, for the entry at a place.
use Rattle.ct_border.proofs.Base.{◌≡◌, ◌<◌, ◌+◌, ◌++◌, ◌∙◌, ℕ, suc, Bool, true, false, Some, List, [], ◌∷◌, cond, get_or, length}
use Rattle.ct_border.proofs.Base.{length-append, refl, sym, ap, subst, arith, All, All-head, All-tail, Action, Name, Mono, Operator}
use Rattle.ct_border.proofs.Base.{mono_eq, mono_eq_decides}
use Rattle.std.proofs.lemmas.List.{get_or-map}
use Rattle.std.proofs.lemmas.List.Elements.{All-push}
use Rattle.ct_frac.specs.Written.{Written}
use Rattle.ct_border.specs.Known.{IsWorked, IsKnown, IsStored, form_at, place_from, place_of}
use Rattle.ct_border.specs.declared.forms.Known.{Known}

module _ (P : Known → Type 0) where
  -- the entry of a monomial, where places are counted from k on
  record IsFound (k : ℕ) (es : List Known) (m : Mono) (place : ℕ) : Type 0 where
    pub entry : Known
    pub index : ℕ
    pub place_is : place ≡ k + index
    pub within : index < length es
    pub form : form_at es index ≡ entry.form.items
    pub mono : entry.mono ≡ m
    pub holds : P entry

  found_from : (k : ℕ) (es : List Known) (m : Mono) (place : ℕ) → All P es → place_from k es m ≡ Some place → IsFound k es m place
  found_from k [] m place all found = cc
  found_from k (e ∷ es) m place all found = by (mono_eq e.mono m) refl found (found_from (k + 1) es m place (All-tail P e es all))
    where
      here : mono_eq e.mono m ≡ true → k ≡ place → IsFound k (e ∷ es) m place
      here equal same = record {
        entry = e;
        index = 0;
        place_is = omega (arith, same);
        within = omega arith;
        form = refl;
        mono = (mono_eq_decides e.mono m).0 equal;
        holds = All-head P e es all;
      }

      there : IsFound (k + 1) es m place → IsFound k (e ∷ es) m place
      there at = record {
        entry = at.entry;
        index = suc at.index;
        place_is = omega (arith, at.place_is);
        within = omega (arith, at.within);
        form = at.form;
        mono = at.mono;
        holds = at.holds;
      }

      by :
          (b : Bool) → mono_eq e.mono m ≡ b → cond b (Some k) (place_from (k + 1) es m) ≡ Some place →
          (place_from (k + 1) es m ≡ Some place → IsFound (k + 1) es m place) → IsFound k (e ∷ es) m place
      by true equal found later = here equal (cc)
      by false other found later = there (later found)

pushed_at : (es : List Known) (e : Known) → form_at (es ++ e ∷ []) (length es) ≡ e.form.items
pushed_at [] e = refl
pushed_at (x ∷ xs) e = pushed_at xs e

pub form_there :
    (es : List Known) (place : ℕ) (e : Known) (form : List Written) → place < length es → e ≡ get_or es place e → form ≡ e.form.items →
    form_at es place ≡ form
form_there es place e form within is same = get_or-map (λ e. e.form.items) es place e [] within ∙ ap (λ e. e.form.items) (sym is) ∙ sym same

module _ (a : Name → Action) (generators : List Operator) (ms : List Mono) where
  pub found_stored :
      (es : List Known) (m : Mono) (place : ℕ) → All (IsKnown a generators ms) es → place_of es m ≡ Some place →
      IsStored a generators ms es m place
  found_stored es m place known found =
      let at = found_from (IsKnown a generators ms) 0 es m place known found in
      let same : at.index ≡ place = omega (arith, at.place_is) in
      subst (IsStored a generators ms es m) same (record {
        within = at.within;
        form = subst (IsWorked a generators ms m) (sym at.form) (subst (λ n. IsWorked a generators ms n at.entry.form.items) at.mono at.holds);
        known = known;
      })

  pub appended_stored :
      (old new : List Known) (e : Known) (place : ℕ) → All (IsKnown a generators ms) old → IsKnown a generators ms e → new ≡ old ++ e ∷ [] →
      place ≡ length old → IsStored a generators ms new e.mono place
  appended_stored old new e place known worked is last = record {
    within = omega (arith, ap length is, length-append old (e ∷ []), last);
    form = subst (IsWorked a generators ms e.mono)
        (sym (ap (λ es. form_at es place) is ∙ ap (form_at (old ++ e ∷ [])) last ∙ pushed_at old e)) worked;
    known = subst (All (IsKnown a generators ms)) (sym is) (All-push (IsKnown a generators ms) old e known worked);
  }
