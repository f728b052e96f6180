-- What letters name, by the place of their text among all texts.
--     known-texts     the name at that place
--     known-within    a name that is known stands
--     new-texts       a text that may be declared stands nowhere
use Rattle.ct_problem.proofs.Base.{◌≡◌, ℕ, ◌+◌, ◌-◌, ◌<◌, Bool, true, false, not, cond, nat_lt, List, [], length, map, Option, Some, None, IsTrue}
use Rattle.ct_problem.proofs.Base.{refl, sym, ap, ◌∙◌, arith, rules, tests, position, bytes_eq, false≢true, length-map, position-Some, Still, Known}
use Rattle.ct_problem.proofs.Base.{Variable, Let, IsPlaceIn, known_at, Names, is_letter_of_symbol, is_named, is_new, is_unknown, known, known_by}
use Rattle.ct_problem.proofs.Base.{texts_of}
use Rattle.ct_ore.specs.declared.algebra.Role.TheVariants.{Free}
use Rattle.ct_problem.specs.Cursor.{AreFew}
use Rattle.ct_problem.proofs.Cursors.{both_pass}
use Rattle.ct_problem.proofs.FirstPlaces.{behind, position-append}
use Rattle.ct_problem.proofs.Places.{position-map}

module _ (text : List ℕ) (names : Names) where
  abbrev variable : Option ℕ
  variable = position (is_named text) names.variables

  abbrev definition : Option ℕ
  definition = position (bytes_eq text) names.lets

  -- the place among all
  place : position (bytes_eq text) (texts_of names) ≡ behind (length names.variables) variable definition
  place =
      position-append (bytes_eq text) (map (λ n. n.text) names.variables) names.lets
      ∙ ap (λ (n : ℕ). behind n (position (bytes_eq text) (map (λ m. m.text) names.variables)) definition) (length-map names.variables (λ n. n.text))
      ∙ ap (λ o. behind (length names.variables) o definition) (position-map (bytes_eq text) (λ n. n.text) names.variables)

  variable_within : (at : ℕ) → variable ≡ Some at → at < length names.variables
  variable_within at e = (position-Some (is_named text) names.variables at (record { text = []; action = Still; role = Free }) e).0

  definition_within : (at : ℕ) → definition ≡ Some at → at < length names.lets
  definition_within at e = (position-Some (bytes_eq text) names.lets at [] e).0

  found_at : (o q : Option ℕ) → variable ≡ o → known_by o q ≡ known_at (length names.variables) (behind (length names.variables) o q)
  found_at (Some at) q e =
      let within = variable_within at e in
      let below : nat_lt at (length names.variables) ≡ true = first_of (search (rules, tests), grind (arith, tests)) in
      ap (λ (b : Bool). cond b (Variable at) (Let (at - length names.variables))) (sym below)
  found_at None (Some at) e =
      let above : nat_lt (length names.variables + at) (length names.variables) ≡ false = first_of (search (rules, tests), grind (arith, tests)) in
      let same : length names.variables + at - length names.variables ≡ at = omega arith in
      ap (λ (n : ℕ). let k : Known = Let n in k) (sym same)
      ∙ ap (λ (b : Bool). cond b (Variable (length names.variables + at)) (Let (length names.variables + at - length names.variables)))
      (sym above)
  found_at None None e = refl

  pub known-texts : known text names ≡ known_at (length names.variables) (position (bytes_eq text) (texts_of names))
  unfolding known
  known-texts = found_at variable definition refl ∙ ap (known_at (length names.variables)) (sym place)

  within_by : AreFew names → (o q : Option ℕ) → variable ≡ o → definition ≡ q → IsPlaceIn names (known_by o q)
  within_by few (Some at) q e d = let below = variable_within at e in let most = few.variables in (below, omega arith)
  within_by few None (Some at) e d = let below = definition_within at d in let most = few.lets in (below, omega arith)
  within_by few None None e d = tt

  pub known-within : AreFew names → IsPlaceIn names (known text names)
  unfolding known
  known-within few = within_by few variable definition refl refl

  unknown_nowhere : (o q : Option ℕ) → IsTrue (is_unknown (known_by o q)) → behind (length names.variables) o q ≡ None
  unknown_nowhere (Some at) q h = absurd (false≢true h)
  unknown_nowhere None (Some at) h = absurd (false≢true h)
  unknown_nowhere None None h = refl

  pub new-texts : IsTrue (is_new text names) → position (bytes_eq text) (texts_of names) ≡ None
  unfolding is_new known
  new-texts h = place ∙ unknown_nowhere variable definition
      (both_pass (not (is_letter_of_symbol text)) (is_unknown (known_by variable definition)) h).1
