-- A piece that is a token is spelled as its symbol says, and as long as it can be. Main lemma `lexeme_is`, by the tests of
-- `piece_of` in their order. A word or a number is all that passes a test at the front (`front_passes`, `front_stops`).
use Rattle.std.proofs.Common.{◌≡◌, inl, inr, ℕ, suc, ◌+◌, ◌<◌, ◌≤◌, ◌==◌, ◌&&◌, Bool, true, false, not, cond, List, [], ◌∷◌, length, take, drop}
use Rattle.std.proofs.Common.{IsTrue, refl, ◌∙◌, subst, arith, rules, tests}
use Rattle.std.specs.List.{prefix_len, take_while, list_all}
use Rattle.std.proofs.lemmas.List.Folds.{length-prefix_len}
use Rattle.std.proofs.lemmas.List.Sums.{prefix_len-le-length}
use Rattle.std.proofs.lemmas.Bool.{false≢true}
use Rattle.ct_token.specs.declared.token.Symbol.{Symbol}
use Rattle.ct_token.specs.declared.token.Symbol.TheVariants.{Word, Number, Sign, Dots, LineEnd}
use Rattle.ct_token.specs.Lexical.{is_blank, is_letter, is_digit, is_word_byte, is_printable, line_end_len, starts_dots, comment_len, Gap, Lexeme}
use Rattle.ct_token.specs.Lexical.{Bad, piece_of}
use Rattle.ct_token.specs.Lexing.{Spells, Stops, Ends}

-- ---- what passes a test at the front

module _ (test : ℕ → Bool) where
  pub front_passes : (bs : List ℕ) → IsTrue (list_all test (take (prefix_len test bs) bs))
  front_passes [] = refl
  front_passes (b ∷ bs) = by (test b) refl (front_passes bs)
    where
      by : (passes : Bool) → test b ≡ passes → IsTrue (list_all test (take (prefix_len test bs) bs)) →
          IsTrue (list_all test (take (cond passes (1 + prefix_len test bs) 0) (b ∷ bs)))
      by true e rest = let one : 1 + prefix_len test bs ≡ suc (prefix_len test bs) = omega arith in rw (one, e) rest
      by false e rest = refl

  pub front_stops : (bs : List ℕ) → Stops test (drop (prefix_len test bs) bs)
  front_stops [] = tt
  front_stops (b ∷ bs) = by (test b) refl (front_stops bs)
    where
      by : (passes : Bool) → test b ≡ passes → Stops test (drop (prefix_len test bs) bs) →
          Stops test (drop (cond passes (1 + prefix_len test bs) 0) (b ∷ bs))
      by true e rest = let one : 1 + prefix_len test bs ≡ suc (prefix_len test bs) = omega arith in rw one rest
      by false e rest = e

  -- where the first byte passes, with it
  pub front_length : (b : ℕ) (bs : List ℕ) → test b ≡ true → length (take_while test (b ∷ bs)) ≡ suc (prefix_len test bs)
  front_length b bs e =
      let more : prefix_len test (b ∷ bs) ≡ 1 + prefix_len test bs = rw e refl in
      let one : 1 + prefix_len test bs ≡ suc (prefix_len test bs) = omega arith in
      length-prefix_len test (b ∷ bs) ∙ more ∙ one

-- ---- a token at the beginning of a text

pub record IsPiece (symbol : Symbol) (n : ℕ) (bs : List ℕ) : Type 0 where
  pub some : 0 < n
  pub within : n ≤ length bs
  pub spelled : Spells symbol (take n bs)
  pub whole : Ends symbol (drop n bs)

word_is : (b : ℕ) (bs : List ℕ) → is_letter b ≡ true → IsPiece Word (suc (prefix_len is_word_byte bs)) (b ∷ bs)
word_is b bs e = record {
  some = omega arith;
  within = omega (arith, prefix_len-le-length is_word_byte bs);
  spelled = (e, front_passes is_word_byte bs);
  whole = front_stops is_word_byte bs;
}

number_is : (b : ℕ) (bs : List ℕ) → is_digit b ≡ true → IsPiece Number (suc (prefix_len is_digit bs)) (b ∷ bs)
number_is b bs e = record {
  some = omega arith;
  within = omega (arith, prefix_len-le-length is_digit bs);
  spelled = rw e (front_passes is_digit bs);
  whole = front_stops is_digit bs;
}

dots_are : (b : ℕ) (bs : List ℕ) → starts_dots (b ∷ bs) ≡ true → IsPiece Dots 2 (b ∷ bs)
dots_are b [] e = absurd (false≢true e)
dots_are b (c ∷ bs) e =
    let first : b ≡ 46 = first_of (search (rules, tests), grind (arith, tests)) in
    let second : c ≡ 46 = first_of (search (rules, tests), grind (arith, tests)) in
    record { some = omega arith; within = omega arith; spelled = rw (first, second) refl; whole = tt }

sign_is : (b : ℕ) (bs : List ℕ) → is_letter b ≡ false → is_digit b ≡ false → starts_dots (b ∷ bs) ≡ false → is_printable b ≡ true →
    IsPiece (Sign b) 1 (b ∷ bs)
sign_is b bs letter digit dots printable = record {
  some = omega arith;
  within = omega arith;
  spelled = (refl, record { printable = printable; no_letter = letter; no_digit = digit });
  whole = λ dot. alone bs dot dots;
}
  where
    alone : (cs : List ℕ) → b ≡ 46 → starts_dots (b ∷ cs) ≡ false → Stops (λ c. c == 46) cs
    alone [] dot none = tt
    alone (c ∷ cs) dot none = rw dot at none

pub line_end_is : (b : ℕ) (bs : List ℕ) → not (line_end_len (b ∷ bs) == 0) ≡ true → IsPiece LineEnd (line_end_len (b ∷ bs)) (b ∷ bs)
line_end_is b [] e = by (b == 10) refl e
  where
    by : (feed : Bool) → (b == 10) ≡ feed → not (cond feed 1 0 == 0) ≡ true → IsPiece LineEnd (cond feed 1 0) (b ∷ [])
    by true f some = let here : b ≡ 10 = first_of (search (rules, tests), grind (arith, tests)) in
        record { some = omega arith; within = omega arith; spelled = inl (rw here refl); whole = tt }
    by false f some = absurd (false≢true some)
line_end_is b (c ∷ bs) e = by (b == 10) refl (b == 13 && c == 10) refl e
  where
    by : (feed : Bool) → (b == 10) ≡ feed → (both : Bool) → (b == 13 && c == 10) ≡ both → not (cond feed 1 (cond both 2 0) == 0) ≡ true →
        IsPiece LineEnd (cond feed 1 (cond both 2 0)) (b ∷ c ∷ bs)
    by true f both g some = let here : b ≡ 10 = first_of (search (rules, tests), grind (arith, tests)) in
        record { some = omega arith; within = omega arith; spelled = inl (rw here refl); whole = tt }
    by false f true g some =
        let first : b ≡ 13 = first_of (search (rules, tests), grind (arith, tests)) in
        let second : c ≡ 10 = first_of (search (rules, tests), grind (arith, tests)) in
        record { some = omega arith; within = omega arith; spelled = inr (rw (first, second) refl); whole = tt }
    by false f false g some = absurd (false≢true some)

-- the same piece, by another name
renamed : (s t : Symbol) (n m : ℕ) (bs : List ℕ) → Lexeme s n ≡ Lexeme t m → IsPiece s n bs → IsPiece t m bs
renamed s t n m bs e piece =
    let same : s ≡ t = cc in
    let long : n ≡ m = cc in
    subst (λ (k : ℕ). IsPiece t k bs) long (subst (λ (u : Symbol). IsPiece u n bs) same piece)

pub lexeme_is : (is_fresh : Bool) (b : ℕ) (bs : List ℕ) (symbol : Symbol) (n : ℕ) → piece_of is_fresh (b ∷ bs) ≡ Lexeme symbol n →
    IsPiece symbol n (b ∷ bs)
unfolding piece_of
lexeme_is is_fresh b bs symbol n e =
    by (is_blank b) (is_fresh && b == 35) (not (line_end_len (b ∷ bs) == 0)) is_fresh (is_letter b) (is_digit b) (starts_dots (b ∷ bs))
    (is_printable b) refl refl refl refl refl e
  where
    by : (blank comment ends fresh letter digit dots printable : Bool)
        → not (line_end_len (b ∷ bs) == 0) ≡ ends → is_letter b ≡ letter → is_digit b ≡ digit → starts_dots (b ∷ bs) ≡ dots →
        is_printable b ≡ printable
        → cond blank (Gap 1)
        (cond comment (Gap (comment_len (b ∷ bs)))
        (cond ends (cond fresh (Gap (line_end_len (b ∷ bs))) (Lexeme LineEnd (line_end_len (b ∷ bs))))
        (cond letter (Lexeme Word (length (take_while is_word_byte (b ∷ bs))))
        (cond digit (Lexeme Number (length (take_while is_digit (b ∷ bs))))
        (cond dots (Lexeme Dots 2)
        (cond printable (Lexeme (Sign b) 1) Bad)))))) ≡ Lexeme symbol n
        → IsPiece symbol n (b ∷ bs)
    by true comment ends fresh letter digit dots printable e1 e2 e3 e4 e5 h = cc
    by false true ends fresh letter digit dots printable e1 e2 e3 e4 e5 h = cc
    by false false true true letter digit dots printable e1 e2 e3 e4 e5 h = cc
    by false false true false letter digit dots printable e1 e2 e3 e4 e5 h = renamed _ _ _ _ _ h (line_end_is b bs e1)
    by false false false fresh true digit dots printable e1 e2 e3 e4 e5 h =
        let passes : is_word_byte b ≡ true = rw e2 refl in
        renamed _ _ _ _ _ h (rw (front_length is_word_byte b bs passes) (word_is b bs e2))
    by false false false fresh false true dots printable e1 e2 e3 e4 e5 h =
        renamed _ _ _ _ _ h (rw (front_length is_digit b bs e3) (number_is b bs e3))
    by false false false fresh false false true printable e1 e2 e3 e4 e5 h = renamed _ _ _ _ _ h (dots_are b bs e4)
    by false false false fresh false false false true e1 e2 e3 e4 e5 h = renamed _ _ _ _ _ h (sign_is b bs e2 e3 e4 e5)
    by false false false fresh false false false false e1 e2 e3 e4 e5 h = cc
