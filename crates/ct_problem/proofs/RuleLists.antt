-- Rules of lists of values, one after the other.
--     More B found xs ls   xs are the values found before, and more, for which ls stand by B
--     no_item, one_item    the list ends; one value more
--     whole_list           the whole, where none was found before
--     separated_rule       values with a sign between them
use Rattle.ct_problem.proofs.Base.{◌≡◌, false, List, [], ◌∷◌, ◌++◌, ◌⊎◌, inl, inr, Option, Ok, refl, sym, ap, ◌∙◌, subst, append_assoc, append-nil, ℕ}
use Rattle.ct_problem.proofs.Base.{Input, Parser, ◌>>=◌, pure, Lexeme, Texts, nothing, one, ◌▸◌, Sign, arith, cond, each, eat, length, suc, zero, ◌≤◌}
use Rattle.ct_problem.proofs.Frame.{joined_to_left, joined_to_right, replaced, shows_sign}
use Rattle.ct_problem.proofs.LexemeStarts.{begun-shows}
use Rattle.ct_problem.proofs.Rules.{any, Rule, like, never, binds, result, same_rule, Made, Split}
use Rattle.ct_problem.proofs.RuleChoices.{or_else, sign_test}

module _ {X : Type 0} where
  pub record More (B : List X → Texts) (found xs : List X) (ls : List Lexeme) : Type 0 where
    pub more : List X
    pub value : xs ≡ found ++ more
    pub spelled : B more ls

  -- a first value, and more
  pub record Cons (L : X → Texts) (C : X → List X → Texts) (xs : List X) (ls : List Lexeme) : Type 0 where
    pub head : X
    pub tail : List X
    pub value : xs ≡ head ∷ tail
    pub spelled : (L head ▸ C head tail) ls

  module _ {bad : Option ℕ} {F : Texts} (B : List X → Texts) (found : List X) where
    pub no_item : ((ls : List Lexeme) → nothing ls → B [] ls) → ((xs : List X) (ls : List Lexeme) → B xs ls → (xs ≡ []) × nothing ls) →
        Rule bad any (pure found) (More B found) F
    no_item none only =
        like (λ xs ls m. record { more = []; value = sym m.0 ∙ sym (append-nil found); spelled = none ls m.1 })
        (λ xs ls m. let o = only m.more ls m.spelled in
        (sym (m.value ∙ ap (λ (ys : List X). found ++ ys) o.0 ∙ append-nil found), o.1)) (λ rest a. a) (result found)

    pub one_item : {p : Parser X} {f : X → Parser (List X)} {L : X → Texts} {C : X → List X → Texts} {G : Texts} → Rule bad any p L G →
        ((x : X) → Rule bad any (f x) (More (C x) (found ++ x ∷ [])) F)
        → ((x : X) (xs : List X) (ls : List Lexeme) → (L x ▸ C x xs) ls → B (x ∷ xs) ls) →
        ((xs : List X) (ls : List Lexeme) → B xs ls → Cons L C xs ls)
        → ((x : X) (xs : List X) (back rest : List Lexeme) → C x xs back → F rest → G (back ++ rest)) → Rule bad any (p >>= f) (More B found) F
    one_item first others add split between =
        like (λ xs ls s. let m = s.spelled.second in record {
          more = s.item ∷ m.more;
          value = m.value ∙ append_assoc found (s.item ∷ []) m.more;
          spelled = add s.item m.more ls (replaced s.spelled m.spelled);
        }) (λ xs ls m. let s = split m.more ls m.spelled in
        record {
          item = s.head;
          spelled = replaced s.spelled (record {
            more = s.tail;
            value = m.value ∙ ap (λ (ys : List X). found ++ ys) s.value ∙ sym (append_assoc found (s.head ∷ []) s.tail);
            spelled = s.spelled.second;
          });
        }) (λ rest a. a) (binds first others (λ x xs back rest m a. between x m.more back rest m.spelled a))

  pub whole_list : {bad : Option ℕ} {F : Texts} {B : List X → Texts} {p : Parser (List X)} → Rule bad any p (More B []) F → Rule bad any p B F
  whole_list {B = B} all =
      like (λ xs ls m. subst (λ (ys : List X). B ys ls) (sym m.value) m.spelled) (λ xs ls b. record { more = xs; value = refl; spelled = b })
      (λ rest a. a) all

-- ---- values with a sign between them

-- at least one and at most n, of which this is made with those that were found before
pub record Separated {X Y : Type 0} (make : List X → Y) (L : X → Texts) (sign n : ℕ) (found : List X) (y : Y) (ls : List Lexeme) : Type 0 where
  pub first : X
  pub more : List X
  pub few : suc (length more) ≤ n
  pub value : make (found ++ first ∷ more) ≡ y
  pub spelled : (L first ▸ each (λ x. one (Sign sign) ▸ L x) more) ls

module _ {bad : Option ℕ} {X Y : Type 0} (make : List X → Y) (sign : ℕ) {p : Parser X} {L : X → Texts} {F G : Texts} (item : Rule bad any p L G)
    (from : ℕ → List X → Parser Y) (stops : (found : List X) (i j : Input) (y : Y) → from 0 found i ≡ Ok (y, j) → ⊥)
    (goes : (n : ℕ) (found : List X) →
    from (suc n) found ≡ (p >>= (λ x. eat sign >>= (λ more. cond more (from n (found ++ x ∷ [])) (pure (make (found ++ x ∷ [])))))))
    (other : (rest : List Lexeme) → F rest → shows_sign sign rest ≡ false) (ends : (rest : List Lexeme) → F rest → G rest)
    (sign_ends : (ls : List Lexeme) → G (Sign sign ∷ ls)) where
  -- what stands behind a value
  abbrev Behind : ℕ → List X → Y → Texts
  Behind n found y ls = (one (Sign sign) ▸ Separated make L sign n found y) ls ⊎ Made (make found) y ls

  abbrev Parts : ℕ → List X → Y → Texts
  Parts n found = Split L (λ x. Behind n (found ++ x ∷ []))

  pub separated_rule : (n : ℕ) (found : List X) → Rule bad any (from n found) (Separated make L sign n found) F
  separated_rule zero found = never (stops found) (λ y ls s. let few = s.few in omega (arith, few))
  separated_rule (suc n) found =
      same_rule (λ i. ap (λ (q : Parser Y). q i) (goes n found)) (like there back (λ rest a. a) (binds item (λ x. or_else
      (λ more. cond more (from n (found ++ x ∷ [])) (pure (make (found ++ x ∷ [])))) (sign_test sign) (separated_rule n (found ++ x ∷ []))
      (result (make (found ++ x ∷ []))) (λ y used rest m a. ap (λ ls. shows_sign sign (ls ++ rest)) m.1 ∙ other rest a)) between))
    where
      there : (y : Y) (ls : List Lexeme) → Parts n found y ls → Separated make L sign (suc n) found y ls
      there y ls s = by s.spelled.second
        where
          by : Behind n (found ++ s.item ∷ []) y s.spelled.back → Separated make L sign (suc n) found y ls
          by (inl h) =
              let p = h.second in
              let few = p.few in
              record {
                first = s.item;
                more = p.first ∷ p.more;
                few = omega (arith, few);
                value = ap make (sym (append_assoc found (s.item ∷ []) (p.first ∷ p.more))) ∙ p.value;
                spelled = replaced s.spelled (joined_to_left (replaced h p.spelled));
              }
          by (inr m) = record { first = s.item; more = []; few = omega arith; value = m.0; spelled = replaced s.spelled m.1 }

      back : (y : Y) (ls : List Lexeme) → Separated make L sign (suc n) found y ls → Parts n found y ls
      back y ls s = by s.more s.few s.value s.spelled
        where
          by : (more : List X) → suc (length more) ≤ suc n → make (found ++ s.first ∷ more) ≡ y →
              (L s.first ▸ each (λ x. one (Sign sign) ▸ L x) more) ls → Parts n found y ls
          by [] few value h = record { item = s.first; spelled = replaced h (inr (value, h.second)) }
          by (x ∷ more) few value h =
              let k = joined_to_right h.second in record {
                item = s.first;
                spelled = replaced h (inl (replaced k (record {
                  first = x;
                  more = more;
                  few = omega (arith, few);
                  value = ap make (append_assoc found (s.first ∷ []) (x ∷ more)) ∙ value;
                  spelled = k.second;
                })));
              }

      between : (x : X) (y : Y) (back rest : List Lexeme) → Behind n (found ++ x ∷ []) y back → F rest → G (back ++ rest)
      between x y back rest (inl h) a = begun-shows (Sign sign) back rest G h sign_ends
      between x y back rest (inr m) a = subst (λ (ls : List Lexeme). G (ls ++ rest)) (sym m.1) (ends rest a)
