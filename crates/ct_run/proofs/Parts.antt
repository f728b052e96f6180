-- The parts that names, quotients and factors make, in a loop, and what a certificate of a report keeps of it.
-- Main lemmas: `pairing_more`, one turn of the loop; `certificate_fits`, that a report on the names makes a certificate for them.
use Rattle.ct_run.proofs.Base.{◌≡◌, ℕ, ◌<◌, List, [], ◌∷◌, ◌++◌, map, append_assoc, sym, ◌∙◌, ap, subst, name_with, Polynomial, Summand}
use Rattle.std.proofs.lemmas.List.{map-append}
use Rattle.std.proofs.lemmas.List.Elements.{All-head, All-tail, All-push}
use Rattle.std.specs.List.{All}
use Rattle.ct_ore.specs.declared.answer.Part.{Part}
use Rattle.ct_ore.specs.Answers.{summand_of}
use Rattle.ct_run.specs.declared.values.Fraction.{Fraction}
use Rattle.ct_run.specs.Fractions.{pair_of}
use Rattle.ct_run.specs.Checking.{summands_of}

-- some parts are done, and names, quotients and factors are left
pub record IsPairing (names : List ℕ) (quotients : List Fraction) (factors : List Polynomial) (done : List Part) (rest : List ℕ)
    (left : List Fraction) (later : List Polynomial) : Type 0 where
  pub value :
      map summand_of done ++ summands_of (map name_with rest) (map pair_of left) later
      ≡ summands_of (map name_with names) (map pair_of quotients) factors
  pub known : (n : ℕ) → All (λ i. i < n) names → All (λ i. i < n) rest × All (λ (p : Part). p.name < n) done

-- one more of each
pub pairing_more :
    {names rest rest' : List ℕ} {quotients left left' : List Fraction} {factors later later' : List Polynomial} {done done' : List Part}
    (j : ℕ) (q : Fraction) (f : Polynomial) →
    rest ≡ j ∷ rest' → left ≡ q ∷ left' → later ≡ f ∷ later' →
    done' ≡ done ++ record { name = j; numerator = q.numerator; denominator = q.denominator; part = f } ∷ [] →
    IsPairing names quotients factors done rest left later → IsPairing names quotients factors done' rest' left' later'
pairing_more {names} {rest} {rest'} {quotients} {left} {left'} {factors} {later} {later'} {done} {done'} j q f er el ef ed pairing =
    let p : Part = record { name = j; numerator = q.numerator; denominator = q.denominator; part = f } in
    let whole : List Summand = summands_of (map name_with names) (map pair_of quotients) factors in
    let with_factors =
    subst (λ l. map summand_of done ++ summands_of (map name_with rest) (map pair_of left) l ≡ whole) ef pairing.value in
    let with_quotients =
    subst (λ l. map summand_of done ++ summands_of (map name_with rest) (map pair_of l) (f ∷ later') ≡ whole) el with_factors in
    let before : map summand_of done ++ summands_of (map name_with (j ∷ rest')) (map pair_of (q ∷ left')) (f ∷ later') ≡ whole =
    subst (λ r. map summand_of done ++ summands_of (map name_with r) (map pair_of (q ∷ left')) (f ∷ later') ≡ whole) er with_quotients in
    record {
      value =
          ap (λ d. map summand_of d ++ summands_of (map name_with rest') (map pair_of left') later') ed
          ∙ ap (λ d. d ++ summands_of (map name_with rest') (map pair_of left') later') (map-append summand_of done (p ∷ []))
          ∙ append_assoc (map summand_of done) (summand_of p ∷ []) (summands_of (map name_with rest') (map pair_of left') later')
          ∙ before;
      known = λ n all.
          let both = pairing.known n all in
          let names_left : All (λ i. i < n) (j ∷ rest') = subst (All (λ i. i < n)) er both.0 in
          let name_here = All-head (λ i. i < n) j rest' names_left in
          let pushed = All-push (λ (p : Part). p.name < n) done p both.1 name_here in
          (All-tail (λ i. i < n) j rest' names_left, subst (All (λ (p : Part). p.name < n)) (sym ed) pushed);
    }
